-- What the loop of `cursor::step` keeps.
use Prim.Native.Nat.{◌-◌}
use lib.ListN.{length}
use Rattle.node.proofs.Steps.{Stepping}
use Rattle.node.proofs.cursor.step.Given as goal

abbrev pub invariant-loop-stand : goal.invariant-loop-stand
invariant-loop-stand l =
    Stepping l.columns.lengths.now l.columns.shared.now l.initial.stand l.initial.length l.number.0 l.stand l.length

abbrev pub decreases-loop-stand : goal.decreases-loop-stand
decreases-loop-stand l =
    length l.columns.lengths.now - l.stand
