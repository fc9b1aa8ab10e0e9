-- A table of stands, and the first of refusals 1 to 5 that holds of it and a grid.
-- LawfulTable says part by part what it means that none does.
use Rattle.std.specs.Prelude.{◌≡◌, Bool, true, cond, not, ◌&&◌, List, [], ◌∷◌, ℕ, ◌+◌, ◌-◌, ◌≤◌, ◌<◌, ℤ, pos, eqb, leb, length, get_or}
use Rattle.base.specs.Lists.{all, every, up_to}
use Rattle.base.specs.Lent.{Lent, given}
use Rattle.rules.specs.declared.Grid.{Grid}
use Rattle.rules.specs.declared.Table as lent
use Rattle.rules.specs.declared.Place.{Place}
use Rattle.rules.specs.Places.{grid_lawful, in_grid}
use Rattle.rules.specs.Names.{allowed, name_allowed, in_order, name}

pub record Table : Type 0 where
  pub text : List ℕ
  pub starts : List ℕ
  pub east : List ℤ
  pub north : List ℤ
  pub score : List ℕ

abbrev pub table_of : List ℕ → List ℕ → List ℤ → List ℤ → List ℕ → Table
table_of text starts east north score = record { text = text; starts = starts; east = east; north = north; score = score }

-- the table that a call is lent, part by part
abbrev pub table_in : Lent (List ℕ) → Lent (List ℕ) → Lent (List ℤ) → Lent (List ℤ) → Lent (List ℕ) → Table
table_in text starts east north score = table_of (given text) (given starts) (given east) (given north) (given score)

-- or lent as one
abbrev pub lent_table : lent.Table → Table
lent_table t = table_of t.text.now t.starts.now t.east.now t.north.now t.score.now

-- N
abbrev pub stands : Table → ℕ
stands t = length t.score

abbrev pub start_of : Table → ℕ → ℕ
start_of t i = get_or t.starts i 0

abbrev pub name_of : Table → ℕ → List ℕ
name_of t i = name t.text t.starts i

abbrev pub place_in : List ℤ → List ℤ → ℕ → Place
place_in east north i = record { east = get_or east i (pos 0); north = get_or north i (pos 0) }

abbrev pub place_of : Table → ℕ → Place
place_of t i = place_in t.east t.north i

abbrev pub score_of : Table → ℕ → ℕ
score_of t i = get_or t.score i 0

-- 1: at most 1,024 stands, parts whose lengths agree, starts from 0 to the text's length that never fall
unfoldable pub rising : List ℕ → Bool
rising s = all (λ i. leb (get_or s i 0) (get_or s (i + 1) 0)) (up_to (length s - 1))

unfoldable pub shape_lawful : Table → Bool
shape_lawful t =
    every
    (leb (stands t) 1024
    ∷ eqb (length t.east) (stands t)
    ∷ eqb (length t.north) (stands t)
    ∷ eqb (length t.starts) (stands t + 1)
    ∷ eqb (start_of t 0) 0
    ∷ rising t.starts
    ∷ eqb (start_of t (stands t)) (length t.text)
    ∷ [])

-- 3: every name's length and bytes
unfoldable pub names_allowed : List ℕ → List ℕ → ℕ → Bool
names_allowed text starts n = all (λ i. name_allowed (name text starts i)) (up_to n)

-- 4: every name but the last, and the one after it
unfoldable pub names_in_order : List ℕ → List ℕ → ℕ → Bool
names_in_order text starts n = all (λ i. in_order (name text starts i) (name text starts (i + 1))) (up_to (n - 1))

-- 5: every stand in the grid, with a score of at most 1,000
unfoldable pub stand_lawful : List ℤ → List ℤ → List ℕ → Grid → ℕ → Bool
stand_lawful east north score g i = in_grid g (place_in east north i) && leb (get_or score i 0) 1000

unfoldable pub stands_lawful : List ℤ → List ℤ → List ℕ → Grid → Bool
stands_lawful east north score g = all (stand_lawful east north score g) (up_to (length score))

-- the first of refusals 1 to 5 that holds, or 0
unfoldable pub table_refusal : Table → Grid → ℕ
table_refusal t g =
    cond (not (shape_lawful t)) 1
    (cond (not (grid_lawful g)) 2
    (cond (not (names_allowed t.text t.starts (stands t))) 3
    (cond (not (names_in_order t.text t.starts (stands t))) 4
    (cond (not (stands_lawful t.east t.north t.score g)) 5
    0))))

-- what refusal 1 leaves
pub record Shaped (t : Table) : Type 0 where
  pub few : stands t ≤ 1024
  pub easts : length t.east ≡ stands t
  pub norths : length t.north ≡ stands t
  pub bounds : length t.starts ≡ stands t + 1
  pub first : start_of t 0 ≡ 0
  pub forward : (i : ℕ) → i < stands t → start_of t i ≤ start_of t (i + 1)
  pub last : start_of t (stands t) ≡ length t.text

-- names in order, each and the next
abbrev pub Ordered : Table → Type 0
Ordered t = (i : ℕ) → i + 1 < stands t → in_order (name_of t i) (name_of t (i + 1)) ≡ true

-- what a table and a grid have that are not refused
pub record LawfulTable (t : Table) (g : Grid) : Type 0 where
  pub shaped : Shaped t
  pub gridded : grid_lawful g ≡ true
  pub some : (i : ℕ) → i < stands t → 1 ≤ length (name_of t i)
  pub short : (i : ℕ) → i < stands t → length (name_of t i) ≤ 24
  pub spelled : (i : ℕ) → i < stands t → all allowed (name_of t i) ≡ true
  pub ordered : Ordered t
  pub placed : (i : ℕ) → i < stands t → in_grid g (place_of t i) ≡ true
  pub scored : (i : ℕ) → i < stands t → score_of t i ≤ 1000
