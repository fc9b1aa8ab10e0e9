-- What the loop of `tally::regions_under` keeps.
use Rattle.node.proofs.Ends.{Ending}
use Rattle.node.proofs.Held.{Marking}
use Rattle.node.proofs.tally.regions_under.Given as goal

abbrev pub invariant-loop-past : goal.invariant-loop-past
invariant-loop-past l =
    Ending l.columns.shared.now l.first l.bytes l.past × Marking l.columns.region.now l.first l.bits l.past
