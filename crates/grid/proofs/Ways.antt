-- Ways in the grid: their lengths are at most its diagonal, and none is shorter than its longer leg.
-- Assumes nothing.
use Rattle.std.proofs.Common.{◌≡◌, ℕ, ◌*◌, ◌/◌, ◌%◌, ◌<◌, ◌≤◌, true, ltb, refl, arith, le-ltb, lt-ltb}
use borrow.Table.Steps.{cases}
use Rattle.rules.specs.declared.Grid.{Grid}
use Rattle.rules.specs.declared.Place.{Place}
use Rattle.rules.specs.Places.{grid_lawful, in_grid}
use Rattle.rules.specs.Worth.{distance², distance, diagonal², diagonal, region_distance², region_distance}
use Rattle.rules.proofs.Places.{cell_small, east_inside, north_inside}
use Rattle.rules.proofs.Roots.{square_less, no_larger, root_is, root-largest, root_order}
use Rattle.grid.specs.declared.worth.Way.{Way}
use Rattle.grid.specs.Ways.{way_between, way_to_region, longer_leg, way_length, Short, WayIn}
use Rattle.grid.proofs.Squares.{side_squared, cell_squared}
use Rattle.grid.proofs.Distances.{legs_less, gap_less}

-- ---- the ways of the definitions

pub between_in : (g : Grid) (p q : Place) → in_grid g p ≡ true → in_grid g q ≡ true → WayIn g (way_between p q)
between_in g p q hp hq =
    record {
      across = legs_less g.west g.cell p.east q.east (east_inside g p hp) (east_inside g q hq);
      along = legs_less g.south g.cell p.north q.north (north_inside g p hp) (north_inside g q hq);
    }

pub to_region_in : (g : Grid) (r : ℕ) (p : Place) → 0 < g.cell → r < 64 → in_grid g p ≡ true → WayIn g (way_to_region g r p)
to_region_in g r p some h inside =
    record {
      across = gap_less g.west g.cell (r % 8) p.east some (omega arith) (east_inside g p inside);
      along = gap_less g.south g.cell (r / 8) p.north some (omega arith) (north_inside g p inside);
    }

pub between_length : (p q : Place) → way_length (way_between p q) ≡ distance p q
unfolding way_length distance² distance
between_length p q = refl

pub to_region_length : (g : Grid) (r : ℕ) (p : Place) → way_length (way_to_region g r p) ≡ region_distance g r p
unfolding way_length region_distance² region_distance
to_region_length g r p = refl

-- ---- how long they are

-- the diagonal of the largest grid
pub diagonal_most : (g : Grid) → grid_lawful g ≡ true → diagonal g ≤ 92681
unfolding diagonal² diagonal
diagonal_most g h =
    let n = diagonal² g in
    no_larger (diagonal g) 92681 n (root_is n).most (omega (arith, cell_squared g.cell (cell_small g h)))

module _ (g : Grid) (w : Way) (inside : WayIn g w) where
  pub short : grid_lawful g ≡ true → Short w
  short h = record { across = omega (arith, cell_small g h, inside.across); along = omega (arith, cell_small g h, inside.along) }

  pub length_most : way_length w ≤ diagonal g
  unfolding way_length diagonal² diagonal
  length_most =
      let side = 8 * g.cell in
      root_order _ _ (omega (arith, square_less w.across side inside.across, square_less w.along side inside.along, side_squared g.cell))

module _ (w : Way) where
  pub leg_along : w.across < w.along → w.along ≡ longer_leg w
  unfolding longer_leg
  leg_along h = rw (lt-ltb w.across w.along h)

  pub leg_across : w.along ≤ w.across → w.across ≡ longer_leg w
  unfolding longer_leg
  leg_across h = rw (le-ltb w.across w.along h)

-- the longer leg is no longer than the way
pub leg_most : (w : Way) → longer_leg w ≤ way_length w
unfolding longer_leg way_length
leg_most w =
    cases (ltb w.across w.along)
    (λ e. rw e (root-largest _ w.along (omega arith)))
    (λ e. rw e (root-largest _ w.across (omega arith)))

-- for the reader: d is at most D for any two places of the grid, so that D − d loses nothing
pub distance-within-diagonal : (g : Grid) (p q : Place) → in_grid g p ≡ true → in_grid g q ≡ true → distance p q ≤ diagonal g
distance-within-diagonal g p q hp hq = rw (between_length p q) at (length_most g (way_between p q) (between_in g p q hp hq))
