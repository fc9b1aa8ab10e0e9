-- The regions that a rectangle touches, as bits, and sets of regions put together: what the code computes.
-- A region is touched if its column and its row lie between the floored edges; proofs/Covers.antt says what that is good for.
use Rattle.std.specs.Prelude.{ℕ, zero, suc, ◌+◌, ◌-◌, ◌*◌, ◌/◌, ◌%◌, ◌^◌, Bool, cond, ◌&&◌, List, ℤ, pos, negsuc, bit_and, nat_le, nat_lt}
use Rattle.std.specs.Int.Signed.{lt_z}
use Rattle.base.specs.Lists.{up_to, keep}
use Rattle.base.specs.Bits.{bit, word_of, bit_at}
use Rattle.rules.specs.declared.Grid.{Grid}
use Rattle.rules.specs.declared.Rect.{Rect}
use Rattle.rules.specs.Places.{edge_strip, regions}
use Rattle.grid.specs.declared.cells.Span.{Span}
use Rattle.grid.specs.declared.cells.Cells.{Cells}
use Rattle.grid.specs.declared.cells.Regions.{Regions}

-- clipped to 0..7
abbrev pub clip : ℤ → ℕ
clip (negsuc n) = 0
clip (pos n) = cond (nat_lt 7 n) 7 n

-- from one floored edge to the other, clipped; empty where both lie on one side of the grid
unfoldable pub span_of : ℤ → ℤ → Span
span_of from to =
    cond (lt_z to (pos 0)) (record { first = 0; past = 0 })
    (cond (lt_z (pos 7) from) (record { first = 0; past = 0 })
    (record { first = clip from; past = clip to + 1 }))

-- the columns or rows between two edges of a rectangle
unfoldable pub edges_span : ℤ → ℕ → ℤ → ℤ → Span
edges_span origin c low high = span_of (edge_strip origin c low) (edge_strip origin c high)

abbrev pub columns_of : Grid → Rect → Span
columns_of g r = edges_span g.west g.cell r.west r.east

abbrev pub rows_of : Grid → Rect → Span
rows_of g r = edges_span g.south g.cell r.south r.north

-- from first on, past not among them
unfoldable pub in_span : Span → ℕ → Bool
in_span s k = nat_le s.first k && nat_lt k s.past

-- region row × 8 + column, by its column and its row
unfoldable pub touched : Span → Span → ℕ → Bool
touched columns rows r = in_span columns (r % 8) && in_span rows (r / 8)

-- a bit for each row of the span, eight apart, for the rows below n
unfoldable pub row_bits : Span → ℕ → ℕ
row_bits rows zero = 0
row_bits rows (suc n) = row_bits rows n + bit (in_span rows n) * 2 ^ (8 * n)

-- the 64 bits of a test of regions: 0 to 31 in low, 32 to 63 in high
unfoldable pub cells_by : (ℕ → Bool) → Cells
cells_by test = record { low = word_of test 0 32; high = word_of test 32 32 }

-- the regions that a rectangle touches
unfoldable pub cells_of : Grid → Rect → Cells
cells_of g r = cells_by (touched (columns_of g r) (rows_of g r))

-- whether the region's bit is 1
unfoldable pub has_cell : Cells → ℕ → Bool
has_cell c r = cond (nat_lt r 32) (bit_at c.low r) (bit_at c.high (r - 32))

-- the regions of a set, rising
abbrev pub regions_in : Cells → List ℕ
regions_in c = keep (has_cell c) (up_to regions)

-- and as they are gone through: those that are still to come
abbrev pub still_to_come : Regions → List ℕ
still_to_come r = regions_in r.left

abbrev pub regions_of : Cells → Regions
regions_of c = record { left = c }

-- the regions of both
unfoldable pub both_cells : Cells → Cells → Cells
both_cells c d = record { low = bit_and c.low d.low; high = bit_and c.high d.high }
