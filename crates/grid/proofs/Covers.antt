-- The regions of a rectangle are those whose column and row lie between its floored edges; they hold each of its places in the grid.
-- Assumes nothing.
use Rattle.std.proofs.Common.{◌≡◌, ℕ, ◌/◌, ◌%◌, ◌<◌, ◌≤◌, Bool, true, ◌&&◌, ℤ, pos, ◌∙◌, ⊎_elim, le_trans, le-div_iff_mul-le, div-mul-le_self, arith, w32, SFits, le-leb, leb-true}
use lib.Signed.{le_z}
use Rattle.base.proofs.Tests.{le_or_lt, every-at}
use Rattle.rules.specs.declared.Grid.{Grid}
use Rattle.rules.specs.declared.Place.{Place}
use Rattle.rules.specs.declared.Rect.{Rect}
use Rattle.rules.specs.Places.{lifted, edge_strip, grid_lawful, within, in_grid, strip, region_of, in_rect}
use Rattle.grid.specs.Cells.{edges_span, touched, cells_of, has_cell}
use Rattle.grid.proofs.Signed.{ahead, behind}
use Rattle.rules.proofs.Places.{cell_some, west_fits, south_fits, from_edge, east_inside, north_inside, column_back, row_back, region_less}
use Rattle.grid.proofs.Spans.{span_exact}
use Rattle.grid.proofs.Sets.{has_by}

-- column or row k lies between two floored edges
abbrev pub between : ℤ → ℕ → ℤ → ℤ → ℕ → Bool
between origin c low high k = le_z (edge_strip origin c low) (pos k) && le_z (pos k) (edge_strip origin c high)

-- for the reader, with no clipping: a region's bit is set exactly if its column and its row lie between the floored edges
pub cells_exact : (g : Grid) (rect : Rect) (r : ℕ) → r < 64 → has_cell (cells_of g rect) r ≡ (between g.west g.cell rect.west rect.east (r % 8) && between g.south g.cell rect.south rect.north (r / 8))
unfolding cells_of touched edges_span
cells_exact g rect r h =
    has_by _ r h
    ∙ rw (
      span_exact (edge_strip g.west g.cell rect.west) (edge_strip g.west g.cell rect.east) (r % 8) (omega arith),
      span_exact (edge_strip g.south g.cell rect.south) (edge_strip g.south g.cell rect.north) (r / 8) (omega arith),
    )

div_order : (a b c : ℕ) → 0 < c → a ≤ b → a / c ≤ b / c
div_order a b c h k = (le-div_iff_mul-le h).1 (le_trans (div-mul-le_self a c) k)

-- along one direction: x lies in the grid and between two edges
module _ (o : ℤ) (c : ℕ) (low high x : ℤ) (fo : SFits w32 o) (fl : SFits w32 low) (fh : SFits w32 high) (some : 0 < c) (inside : within o c x ≡ true) where
  from_low : lifted low ≤ lifted x → le_z (edge_strip o c low) (pos (strip o c x)) ≡ true
  from_low h =
      ⊎_elim
      (λ (k : lifted o ≤ lifted low). rw (ahead low o fl fo k) (le-leb _ _ (div_order _ _ c some (omega arith))))
      (λ (k : lifted low < lifted o). rw (behind low o fl fo k))
      (le_or_lt (lifted o) (lifted low))

  to_high : lifted x ≤ lifted high → le_z (pos (strip o c x)) (edge_strip o c high) ≡ true
  to_high h =
      let k : lifted o ≤ lifted high = omega (arith, from_edge o c x inside) in
      rw (ahead high o fh fo k) (le-leb _ _ (div_order _ _ c some (omega arith)))

  strip_between : lifted low ≤ lifted x → lifted x ≤ lifted high → between o c low high (strip o c x) ≡ true
  strip_between h k = rw (from_low h, to_high k)

-- the edges are numbers of 32 bits, as any that a call is given
pub record Edges (r : Rect) : Type 0 where
  pub west : SFits w32 r.west
  pub east : SFits w32 r.east
  pub south : SFits w32 r.south
  pub north : SFits w32 r.north

-- for the reader: a place of the grid that lies in a rectangle is in one of the rectangle's regions
pub covered : (g : Grid) (r : Rect) (p : Place) → grid_lawful g ≡ true → Edges r → in_grid g p ≡ true → in_rect r p ≡ true → has_cell (cells_of g r) (region_of g p) ≡ true
unfolding in_rect
covered g r p lawful e inside in-rect =
    let some = cell_some g lawful in
    let across = strip_between g.west g.cell r.west r.east p.east (west_fits g lawful) e.west e.east some (east_inside g p inside) (leb-true _ _ (every-at _ 0 in-rect)) (leb-true _ _ (every-at _ 1 in-rect)) in
    let along = strip_between g.south g.cell r.south r.north p.north (south_fits g lawful) e.south e.north some (north_inside g p inside) (leb-true _ _ (every-at _ 2 in-rect)) (leb-true _ _ (every-at _ 3 in-rect)) in
    cells_exact g r (region_of g p) (region_less g p lawful inside) ∙ rw (column_back g p some inside, row_back g p some inside, across, along)
