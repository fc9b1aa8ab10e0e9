-- Distances in whole metres, the value of a stand at a place, and the bound of a region.
-- In the grid d is at most D, so that D − d loses nothing.
use Rattle.std.specs.Prelude.{cond, ℕ, zero, suc, ◌+◌, ◌-◌, ◌*◌, ◌/◌, ◌%◌, ◌≤◌, ◌<◌, ℤ, ltb, leb}
use Rattle.rules.specs.declared.Grid.{Grid}
use Rattle.rules.specs.declared.Place.{Place}
use Rattle.rules.specs.Places.{lifted}

abbrev pub apart : ℕ → ℕ → ℕ
apart a b = (a - b) + (b - a)

abbrev pub squared : ℕ → ℕ
squared x = x * x

-- up from r as long as the next number's square is at most n, in at most so many steps
unfoldable pub root_from : ℕ → ℕ → ℕ → ℕ
root_from zero r n = r
root_from (suc steps) r n = cond (leb (squared (suc r)) n) (root_from steps (suc r) n) r

-- the largest whole number whose square is at most n; no step past n is wanted, as no root is larger than its number
unfoldable pub root : ℕ → ℕ
root n = root_from n 0 n

-- what makes r the root of n: its square is at most n, and that of the next number is more
pub record IsRoot (n r : ℕ) : Type 0 where
  pub most : squared r ≤ n
  pub next : n < squared (suc r)

unfoldable pub distance² : Place → Place → ℕ
distance² p q = squared (apart (lifted p.east) (lifted q.east)) + squared (apart (lifted p.north) (lifted q.north))

-- d
unfoldable pub distance : Place → Place → ℕ
distance p q = root (distance² p q)

unfoldable pub diagonal² : Grid → ℕ
diagonal² g = 128 * (g.cell * g.cell)

-- D
unfoldable pub diagonal : Grid → ℕ
diagonal g = root (diagonal² g)

-- by D, weight a, score and d
unfoldable pub value_at : ℕ → ℕ → ℕ → ℕ → ℕ
value_at D a score d = a * score * D + (16 - a) * (D - d) * 1000

unfoldable pub value_of : Grid → ℕ → ℕ → Place → Place → ℕ
value_of g a score stand place = value_at (diagonal g) a score (distance stand place)

-- of the c metres from low on, the nearest to x
unfoldable pub nearest : ℕ → ℕ → ℕ → ℕ
nearest low c x = cond (ltb x low) low (cond (leb (low + c) x) (low + c - 1) x)

-- the nearest metre of column or row k, lifted
abbrev pub nearest_in : ℤ → ℕ → ℕ → ℤ → ℕ
nearest_in edge c k x = nearest (lifted edge + k * c) c (lifted x)

-- how far a place is from that metre, across to a region's column and along to its row
abbrev pub across_to : Grid → ℕ → Place → ℕ
across_to g r p = apart (nearest_in g.west g.cell (r % 8) p.east) (lifted p.east)

abbrev pub along_to : Grid → ℕ → Place → ℕ
along_to g r p = apart (nearest_in g.south g.cell (r / 8) p.north) (lifted p.north)

-- from a place to the nearest metre of a region's cell
unfoldable pub region_distance² : Grid → ℕ → Place → ℕ
region_distance² g r p = squared (across_to g r p) + squared (along_to g r p)

unfoldable pub region_distance : Grid → ℕ → Place → ℕ
region_distance g r p = root (region_distance² g r p)

-- the most that a stand of the region with at most this score can be worth
unfoldable pub bound_of : Grid → ℕ → ℕ → ℕ → Place → ℕ
bound_of g a score r place = value_at (diagonal g) a score (region_distance g r place)
