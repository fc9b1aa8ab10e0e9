-- The columns of a table, by the definitions: of each stand the length of its name, how much of it the name before has too, its region.
use Rattle.std.specs.Prelude.{◌≡◌, true, List, ℕ, zero, suc, ◌≤◌, ◌<◌, ℤ, length}
use Rattle.base.specs.Lists.{up_to, each, shared_length}
use Rattle.rules.specs.declared.Grid.{Grid}
use Rattle.rules.specs.Places.{grid_lawful, in_grid, region_of}
use Rattle.rules.specs.Names.{name}
use Rattle.rules.specs.Tables.{Table, stands, place_in}
use Rattle.node.specs.Columns.{IndexColumns, index_columns}

-- ---- one stand's row

abbrev pub length_in : List ℕ → List ℕ → ℕ → ℕ
length_in text starts i = length (name text starts i)

-- the first name has none before it
abbrev pub shared_in : List ℕ → List ℕ → ℕ → ℕ
shared_in text starts zero = 0
shared_in text starts (suc i) = shared_length (name text starts i) (name text starts (suc i))

abbrev pub region_in : List ℤ → List ℤ → Grid → ℕ → ℕ
region_in east north g i = region_of g (place_in east north i)

-- ---- the columns

abbrev pub lengths_in : List ℕ → List ℕ → ℕ → List ℕ
lengths_in text starts n = each (length_in text starts) (up_to n)

abbrev pub shares_in : List ℕ → List ℕ → ℕ → List ℕ
shares_in text starts n = each (shared_in text starts) (up_to n)

abbrev pub regions_over : List ℤ → List ℤ → Grid → List ℕ
regions_over east north g = each (region_in east north g) (up_to (length east))

unfoldable pub lengths_of : Table → List ℕ
lengths_of t = lengths_in t.text t.starts (stands t)

unfoldable pub shared_of : Table → List ℕ
shared_of t = shares_in t.text t.starts (stands t)

unfoldable pub regions_of : Grid → Table → List ℕ
regions_of g t = each (region_in t.east t.north g) (up_to (stands t))

abbrev pub table_columns : Table → Grid → IndexColumns
table_columns t g = index_columns t.text t.starts (lengths_of t) (shared_of t) (regions_of g t) t.score

-- ---- what the code asks, so that a row fits a byte and a column its array

pub record Spelled (text starts : List ℕ) (n : ℕ) : Type 0 where
  pub few : n ≤ 1024
  pub short : (i : ℕ) → i < n → length_in text starts i ≤ 24

pub record Located (east north : List ℤ) (g : Grid) : Type 0 where
  pub few : length east ≤ 1024
  pub same : length north ≡ length east
  pub lawful : grid_lawful g ≡ true
  pub inside : (i : ℕ) → i < length east → in_grid g (place_in east north i) ≡ true
