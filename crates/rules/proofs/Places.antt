-- What a lawful grid and a place inside it give in numbers: columns and rows are below 8, regions below 64.
-- Assumes nothing.
use mathlib.Core.Path.{◌≡◌}
use mathlib.Core.Bool.{true}
use Prim.Native.Nat.{ℕ, ◌+◌, ◌*◌, ◌/◌, ◌%◌, ◌<◌, ◌≤◌}
use native.Mathlib.Nat.{div-lt_iff_lt-mul}
use native.Mathlib.Omega.{arith}
use lib.Arith.{digits_div, digits_mod}
use lib.IntN.{ℤ, pos, negsuc}
use lib.Dec.{leb}
use borrow.Author.Tests.{leb-true, ltb-true}
use mir.Syntax.{w32}
use mir.Val.{SFits}
use Rattle.base.proofs.Tests.{and_left, and_right, every-at}
use Rattle.rules.specs.declared.Grid.{Grid}
use Rattle.rules.specs.declared.Place.{Place}
use Rattle.rules.specs.Places.{lifted, edge_lawful, grid_lawful, within, in_grid, strip, region_of, regions}

-- a lawful edge is a number of 32 bits
edge_fits : (e : ℤ) → edge_lawful e ≡ true → SFits w32 e
unfolding edge_lawful
edge_fits (pos n) h = record { sfits = omega (arith, leb-true n 1000000 h) }
edge_fits (negsuc n) h = record { sfits = omega (arith, leb-true n 999999 (and_left _ true h)) }

module _ (g : Grid) (lawful : grid_lawful g ≡ true) where
  pub west_fits : SFits w32 g.west
  unfolding grid_lawful
  west_fits = edge_fits g.west (every-at _ 0 lawful)

  pub south_fits : SFits w32 g.south
  unfolding grid_lawful
  south_fits = edge_fits g.south (every-at _ 1 lawful)

  pub cell_some : 0 < g.cell
  unfolding grid_lawful
  cell_some = leb-true 1 g.cell (every-at _ 2 lawful)

  pub cell_small : g.cell ≤ 8192
  unfolding grid_lawful
  cell_small = leb-true g.cell 8192 (every-at _ 3 lawful)

-- along one direction
module _ (o : ℤ) (c : ℕ) (x : ℤ) (inside : within o c x ≡ true) where
  pub from_edge : lifted o ≤ lifted x
  unfolding within
  from_edge = leb-true _ _ (and_left _ _ inside)

  pub before_end : lifted x < lifted o + 8 * c
  unfolding within
  before_end = ltb-true _ _ (and_right (leb (lifted o) (lifted x)) _ inside)

  pub strip_less : 0 < c → strip o c x < 8
  strip_less h = let b = before_end in (div-lt_iff_lt-mul h).1 (omega arith)

module _ (g : Grid) (p : Place) (inside : in_grid g p ≡ true) where
  pub east_inside : within g.west g.cell p.east ≡ true
  unfolding in_grid
  east_inside = and_left _ _ inside

  pub north_inside : within g.south g.cell p.north ≡ true
  unfolding in_grid
  north_inside = and_right (within g.west g.cell p.east) _ inside

-- a region's column and row
module _ (g : Grid) (p : Place) (some : 0 < g.cell) (inside : in_grid g p ≡ true) where
  column_less : strip g.west g.cell p.east < 8
  column_less = strip_less _ _ _ (east_inside g p inside) some

  pub column_back : region_of g p % 8 ≡ strip g.west g.cell p.east
  unfolding region_of
  column_back = digits_mod (strip g.south g.cell p.north) column_less

  pub row_back : region_of g p / 8 ≡ strip g.south g.cell p.north
  unfolding region_of
  row_back = digits_div (strip g.south g.cell p.north) column_less

-- for the reader: each place of a lawful grid is in a region below 64
pub region_less : (g : Grid) (p : Place) → grid_lawful g ≡ true → in_grid g p ≡ true → region_of g p < 64
unfolding region_of
region_less g p lawful inside =
    let some = cell_some g lawful in
    omega (arith, strip_less _ _ _ (east_inside g p inside) some, strip_less _ _ _ (north_inside g p inside) some)

-- the same, where the number of regions is shut
pub region_among : (g : Grid) (p : Place) → grid_lawful g ≡ true → in_grid g p ≡ true → region_of g p < regions
unfolding regions
region_among g p lawful inside = region_less g p lawful inside
