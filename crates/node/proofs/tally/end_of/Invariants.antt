-- What the loop of `tally::end_of` keeps.
use Prim.Native.Nat.{◌-◌}
use lib.ListN.{length}
use Rattle.node.proofs.Ends.{Ending}
use Rattle.node.proofs.tally.end_of.Given as goal

abbrev pub invariant-loop-past : goal.invariant-loop-past
invariant-loop-past l =
    Ending l.shared l.first l.bytes l.past

abbrev pub decreases-loop-past : goal.decreases-loop-past
decreases-loop-past l =
    length l.shared - l.past
