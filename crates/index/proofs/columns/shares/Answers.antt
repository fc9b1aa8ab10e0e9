-- `columns::shares` fills the column of what names share: the invariant is Front.
-- Assumes nothing.
use Rattle.words.proofs.Filling.{front_more}
use Rattle.index.proofs.columns.shares.Goals as goal

pub loop-stand-preserved : goal.loop-stand-preserved
loop-stand-preserved c = front_more c.loop-stand.invariant c.loop-stand-test.true c.shared_before.ensures
