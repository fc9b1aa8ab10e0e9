-- `buffers::put_index` counts, tests the buffers, and writes: two ways out.
-- Assumes nothing.
use Rattle.index.proofs.Answers.{no_room, wrote}
use Rattle.index.proofs.buffers.put_index.Goals as goal

pub returns-then-too_small : goal.returns-then-too_small
returns-then-too_small c = no_room _ _ _ c.count-sizes.ensures _ c.too_small.ensures c.if-too_small.true

pub returns : goal.returns
returns c = wrote _ _ _ c.count-sizes.ensures _ c.too_small.ensures c.if-too_small.false _ _ c.put_order.ensures c.write.ensures
