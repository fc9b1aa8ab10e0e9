-- Ways: across and along, from place to place or to the nearest metre of a region's cell; and what is asked of
-- places, weight and score so that the sums of a length and of a value fit.
use Rattle.std.specs.Prelude.{◌≡◌, ℕ, ◌+◌, ◌*◌, ◌<◌, ◌≤◌, true, cond, nat_lt}
use Rattle.rules.specs.declared.Grid.{Grid}
use Rattle.rules.specs.declared.Place.{Place}
use Rattle.rules.specs.Places.{grid_lawful, in_grid, lifted}
use Rattle.rules.specs.Worth.{apart, squared, root, across_to, along_to}
use Rattle.grid.specs.declared.worth.Way.{Way}

abbrev pub way_between : Place → Place → Way
way_between p q = record { across = apart (lifted p.east) (lifted q.east); along = apart (lifted p.north) (lifted q.north) }

abbrev pub way_to_region : Grid → ℕ → Place → Way
way_to_region g r p = record { across = across_to g r p; along = along_to g r p }

unfoldable pub longer_leg : Way → ℕ
longer_leg w = cond (nat_lt w.across w.along) w.along w.across

unfoldable pub way_length : Way → ℕ
way_length w = root (squared w.across + squared w.along)

-- each leg is below the side of the largest grid
pub record Short (w : Way) : Type 0 where
  pub across : w.across < 65536
  pub along : w.along < 65536

-- each leg is below the grid's side
pub record WayIn (g : Grid) (w : Way) : Type 0 where
  pub across : w.across < 8 * g.cell
  pub along : w.along < 8 * g.cell

-- a region, and a place of a lawful grid
pub record SeenFrom (g : Grid) (region : ℕ) (place : Place) : Type 0 where
  pub lawful : grid_lawful g ≡ true
  pub inside : in_grid g place ≡ true
  pub small : region < 64

-- a column or row, and the side of a cell
pub record Strip (cell strip : ℕ) : Type 0 where
  pub some : 0 < cell
  pub most : cell ≤ 8192
  pub below : strip < 8

-- D of a lawful grid, a weight and a score in their limits
pub record Weighable (D a s : ℕ) : Type 0 where
  pub whole : D ≤ 92681
  pub weight : a ≤ 16
  pub score : s ≤ 1000
