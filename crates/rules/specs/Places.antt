-- The grid, the region of a place, the column of an edge, and rectangles.
-- Metres are signed, and are reckoned with as natural numbers once they are lifted by 2 ^ 31.
use Rattle.std.specs.Prelude.{Bool, cond, not, ◌&&◌, [], ◌∷◌, ℕ, ◌+◌, ◌-◌, ◌*◌, ◌/◌, ℤ, pos, negsuc, ◌-ℤ◌, ltb, leb}
use Rattle.std.specs.Int.Signed.{le_z}
use Rattle.base.specs.Lists.{every}
use Rattle.rules.specs.declared.Grid.{Grid}
use Rattle.rules.specs.declared.Place.{Place}
use Rattle.rules.specs.declared.Rect.{Rect}
use Rattle.rules.specs.Numbers.{Told, telling, refusing}

-- how far a signed 32-bit number of metres stands above the least one
abbrev pub lifted : ℤ → ℕ
lifted (pos n) = n + 2147483648
lifted (negsuc n) = 2147483647 - n

-- −1,000,000 to 1,000,000
unfoldable pub edge_lawful : ℤ → Bool
edge_lawful e = le_z (negsuc 999999) e && le_z e (pos 1000000)

unfoldable pub grid_lawful : Grid → Bool
grid_lawful g = every (edge_lawful g.west ∷ edge_lawful g.south ∷ leb 1 g.cell ∷ leb g.cell 8192 ∷ [])

-- from an edge to edge + 8c − 1
unfoldable pub within : ℤ → ℕ → ℤ → Bool
within edge c x = leb (lifted edge) (lifted x) && ltb (lifted x) (lifted edge + 8 * c)

unfoldable pub in_grid : Grid → Place → Bool
in_grid g p = within g.west g.cell p.east && within g.south g.cell p.north

-- the column or row of a coordinate of the grid
abbrev pub strip : ℤ → ℕ → ℤ → ℕ
strip edge c x = (lifted x - lifted edge) / c

-- of a place of the grid: row × 8 + column
unfoldable pub region_of : Grid → Place → ℕ
region_of g p = strip g.south g.cell p.north * 8 + strip g.west g.cell p.east

-- how many regions there are; shut, so that a run of them stays a call
unfoldable pub regions : ℕ
regions = 64

-- what asking for a place's region is answered: 2, then 12, else the region
unfoldable pub region_told : Grid → Place → Told
region_told g p = cond (not (grid_lawful g)) (refusing 2) (cond (not (in_grid g p)) (refusing 12) (telling (region_of g p)))

-- x ÷ c rounded down: −1 ÷ c is −1, where rounding toward zero gives 0
abbrev pub floor_div : ℤ → ℕ → ℤ
floor_div (pos n) c = pos (n / c)
floor_div (negsuc n) c = negsuc (n / c)

-- the column or row of any edge, which may lie beside the grid
abbrev pub edge_strip : ℤ → ℕ → ℤ → ℤ
edge_strip origin c edge = floor_div (edge -ℤ origin) c

unfoldable pub rect_lawful : Rect → Bool
rect_lawful r = leb (lifted r.west) (lifted r.east) && leb (lifted r.south) (lifted r.north)

unfoldable pub in_rect : Rect → Place → Bool
in_rect r p =
    every
    (leb (lifted r.west) (lifted p.east)
    ∷ leb (lifted p.east) (lifted r.east)
    ∷ leb (lifted r.south) (lifted p.north)
    ∷ leb (lifted p.north) (lifted r.north)
    ∷ [])
