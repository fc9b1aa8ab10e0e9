-- `columns::lengths` fills the column of the names' lengths: the invariant is Front.
-- Assumes nothing.
use mathlib.Core.Path.{ap}
use lib.ListN.{length}
use Rattle.words.proofs.Filling.{front_more}
use Rattle.index.proofs.columns.lengths.Goals as goal

pub loop-stand-preserved : goal.loop-stand-preserved
loop-stand-preserved c = front_more c.loop-stand.invariant c.loop-stand-test.true (ap length c.name_of-name.ensures)
