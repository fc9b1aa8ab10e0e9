-- `buffers::has_index` compares the order, then the nodes with their entries and records.
-- Assumes nothing.
use Rattle.index.proofs.Answers.{other-order, compared_all}
use Rattle.index.proofs.buffers.has_index.Goals as goal

pub returns-then-not-has_order : goal.returns-then-not-has_order
returns-then-not-has_order c = other-order _ _ _ c.has_order.ensures c.if-not-has_order.true

pub returns : goal.returns
returns c = compared_all _ _ _ c.has_order.ensures c.if-not-has_order.false _ c.check.ensures
