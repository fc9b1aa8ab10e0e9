-- `answer` reads, and hands the fronts of the columns and a part of the input to the finder; each answer says what was read.
-- Assumes nothing.
use native.Mathlib.Omega.{arith}
use Rattle.desk_answer.proofs.Readings.{handed_read, replied}
use Rattle.desk_answer.proofs.answer.Goals as goal

pub table-table-requires-clause-short : goal.table-table-requires-clause-short
table-table-requires-clause-short c = (handed_read _ _ _ _ c.in-Ok.ensures).1.text.within

pub slice_bounds-typed-end : goal.slice_bounds-typed-end
slice_bounds-typed-end c = let p = (handed_read _ _ _ _ c.in-Ok.ensures).1 in omega (arith, p.forward, p.inside)

pub returns : goal.returns
returns c = replied _ _ _ c.reply.ensures _ c.in-Ok.ensures (rw c.table-table.ensures)
