-- `grid::cells::cells_of` meets its contract. The spans are those of the floored edges; their columns' mask at each of their rows is the word of the touched regions.
-- Assumes nothing.
use Rattle.std.proofs.Common.{◌≡◌, ◌*◌, ◌≤◌, ◌∙◌, arith, to_z-of_z, w32, rules}
use Rattle.base.specs.Bits.{word_of}
use Rattle.base.proofs.Words.{word_less}
use Rattle.grid.specs.Cells.{cells_of, columns_of, rows_of, edges_span, touched}
use Rattle.rules.proofs.Places.{cell_some}
use Rattle.grid.proofs.Spans.{past_most}
use Rattle.grid.proofs.Rows.{mask_touched}
use Rattle.grid.proofs.Sets.{by_halves}
use Rattle.grid.proofs.cells.cells_of.Goals as goal

rows_are : (c : goal.After-strips-rows) → c.strips-rows.result ≡ rows_of c.args.grid c.args.rect
rows_are c =
    let a = c.args in
    c.strips-rows.ensures
    ∙ rw (to_z-of_z {w = w32} {z = a.rect.south} (search rules), to_z-of_z {w = w32} {z = a.rect.north} (search rules), to_z-of_z {w = w32} {z = a.grid.south} (search rules))

-- both lie on the grid
on-grid : (c : goal.After-strips-rows) → (c.strips-columns.result.past ≤ 8) × (c.strips-rows.result.past ≤ 8)
unfolding edges_span
on-grid c =
    let columns_are : c.strips-columns.result ≡ columns_of c.args.grid c.args.rect = let a = c.args in
    c.strips-columns.ensures
    ∙ rw (to_z-of_z {w = w32} {z = a.rect.west} (search rules), to_z-of_z {w = w32} {z = a.rect.east} (search rules), to_z-of_z {w = w32} {z = a.grid.west} (search rules)) in
    (rw columns_are (past_most _ _), rw (rows_are c) (past_most _ _))

-- the columns' mask at each row
product : (c : goal.After-row_bits) → c.mask.result * c.row_bits.result ≡ word_of (touched c.strips-columns.result c.strips-rows.result) 0 64
product c = rw (c.mask.ensures, c.row_bits.ensures) (mask_touched _ _ 8)

pub strips-columns-requires : goal.strips-columns-requires
strips-columns-requires c = cell_some _ c.requires

pub strips-rows-requires : goal.strips-rows-requires
strips-rows-requires c = cell_some _ c.requires

pub mask-requires : goal.mask-requires
mask-requires c = omega (arith, on-grid c)

pub row_bits-requires : goal.row_bits-requires
row_bits-requires c = omega (arith, on-grid c.before)

pub overflow_mul-bits : goal.overflow_mul-bits
overflow_mul-bits c = record { fits = rw (product c) (word_less _ 0 64) }

pub overflow_cast-result-2 : goal.overflow_cast-result-2
overflow_cast-result-2 c = omega (arith, (overflow_mul-bits c).fits)

pub returns : goal.returns
unfolding cells_of
returns c =
    let columns_are : c.strips-columns.result ≡ columns_of c.args.grid c.args.rect = let a = c.args in
    c.strips-columns.ensures
    ∙ rw (to_z-of_z {w = w32} {z = a.rect.west} (search rules), to_z-of_z {w = w32} {z = a.rect.east} (search rules), to_z-of_z {w = w32} {z = a.grid.west} (search rules)) in
    rw (product c, columns_are, rows_are c.before.before) (by_halves _)
