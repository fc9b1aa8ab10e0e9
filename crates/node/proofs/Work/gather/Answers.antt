-- `node::Work::gather` meets its contract, by those of its three steps. Assumes nothing.
use Rattle.node.proofs.Gathering.{gathered}
use Rattle.node.proofs.Work.gather.Goals as goal

pub returns : goal.returns
returns c = gathered _ _ _ _ _ _ _ _ c.end_of-past.ensures c.tally-bits.ensures c.ranks-held.ensures
