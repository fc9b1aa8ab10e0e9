-- What the loop of `check` keeps.
use Prim.Native.Nat.{◌-◌}
use Rattle.node.specs.Lent.{columns_of}
use Rattle.words.specs.Words.{rooms_in}
use Rattle.words.proofs.Checks.{Checking}
use Rattle.words.proofs.check.Given as goal

abbrev pub invariant-loop-here : goal.invariant-loop-here
invariant-loop-here l =
    Checking (columns_of l.columns) l.all (rooms_in l.index) l.work l.here

abbrev pub decreases-loop-here : goal.decreases-loop-here
decreases-loop-here l =
    l.all - l.here.number.0
