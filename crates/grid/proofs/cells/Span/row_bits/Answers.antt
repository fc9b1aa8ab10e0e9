-- `grid::cells::Span::row_bits` meets its contract. The bits of all rows are shifted down until as many are left as the span has, and up to its first.
-- Assumes nothing.
use Rattle.grid.proofs.Rows.{no_row, rows_shifted}
use Rattle.grid.proofs.cells.Span.row_bits.Goals as goal

pub returns-then-past-first : goal.returns-then-past-first
returns-then-past-first c = no_row c.args.self c.requires c.if-past-first.true

pub returns : goal.returns
returns c = rows_shifted c.args.self c.requires c.if-past-first.false
