-- What the loop of `roots::root` keeps.
use Rattle.grid.proofs.Rooting.{Rooting}
use Rattle.grid.proofs.roots.root.Given as goal

abbrev pub invariant-loop-bit : goal.invariant-loop-bit
invariant-loop-bit l =
    Rooting l.n l.found l.bit
