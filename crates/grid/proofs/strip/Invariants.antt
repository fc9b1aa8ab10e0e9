-- What the loop of `strip` keeps.
use Rattle.grid.proofs.Steps.{Stepping}
use Rattle.grid.proofs.strip.Given as goal

abbrev pub invariant-loop-strip : goal.invariant-loop-strip
invariant-loop-strip l =
    Stepping l.edge l.cell l.x l.next l.strip
