-- A table's columns, and what lies under a node by them: where its stands end, how many nodes they make, what each region holds.
use Rattle.std.specs.Prelude.{◌≡◌, Bool, true, not, cond, List, [], ◌∷◌, ℕ, suc, ◌+◌, ◌-◌, ◌≤◌, ◌<◌, eqb, ltb, length, take, drop, get_or}
use Rattle.base.specs.Lists.{from_on, up_to, keep, each, total, largest, is_empty, insert_by, sort_by, leads}
use Rattle.base.specs.Bits.{word_of}
use Rattle.rules.specs.Places.{regions}
use Rattle.rules.specs.Indexes.{Entry, ahead}

abbrev pub at : List ℕ → ℕ → ℕ
at l i = get_or l i 0

-- the lengths of names in order, and how much each shares with the name before
pub record Grows (lengths shared : List ℕ) : Type 0 where
  pub few : length lengths ≤ 1024
  pub same : length shared ≡ length lengths
  pub part : (k : ℕ) → k < length lengths → at shared k ≤ at lengths k
  pub short : (k : ℕ) → k < length lengths → at lengths k ≤ 24
  pub before : (k : ℕ) → suc k < length lengths → at shared (suc k) ≤ at lengths k
  pub first : at shared 0 ≡ 0

-- the region of each stand
pub record Placed (region : List ℕ) : Type 0 where
  pub few : length region ≤ 1024
  pub inside : (k : ℕ) → k < length region → at region k < 64

pub record IndexColumns : Type 0 where
  pub text : List ℕ
  pub starts : List ℕ
  pub lengths : List ℕ
  pub shared : List ℕ
  pub region : List ℕ
  pub score : List ℕ

abbrev pub index_columns : List ℕ → List ℕ → List ℕ → List ℕ → List ℕ → List ℕ → IndexColumns
index_columns text starts lengths shared region score =
    record { text = text; starts = starts; lengths = lengths; shared = shared; region = region; score = score }

-- each name inside the text
pub record Spelt (text starts lengths : List ℕ) : Type 0 where
  pub begun : length lengths ≤ length starts
  pub inside : (k : ℕ) → k < length lengths → at starts k + at lengths k ≤ length text

pub record LawfulColumns (t : IndexColumns) : Type 0 where
  pub grows : Grows t.lengths t.shared
  pub placed : Placed t.region
  pub same : length t.region ≡ length t.lengths
  pub scored : length t.score ≡ length t.lengths
  pub spelt : Spelt t.text t.starts t.lengths

-- how many at the front are l or more
abbrev pub front_run : ℕ → List ℕ → ℕ
front_run l [] = 0
front_run l (c ∷ cs) = cond (ltb c l) 0 (suc (front_run l cs))

abbrev pub block_of : ℕ → List ℕ → ℕ
block_of l [] = 0
block_of l (c ∷ cs) = suc (front_run l cs)

-- the first stand past i that shares less than l bytes with the one before; i itself past the end
unfoldable pub end_of : List ℕ → ℕ → ℕ → ℕ
end_of shared i l = i + block_of l (drop i shared)

-- a node's stands, from stand i on, end at e
pub record Ends (shared : List ℕ) (i l e : ℕ) : Type 0 where
  pub end : e ≡ end_of shared i l
  pub after : i ≤ e
  pub within : e ≤ length shared

-- the stands i .. e - 1 have a row in the column
abbrev pub InColumn : List ℕ → ℕ → ℕ → Type 0
InColumn column i e = (i ≤ e) × (e ≤ length column)

-- i, i + 1, .. e - 1
abbrev pub span : ℕ → ℕ → List ℕ
span i e = from_on i (e - i)

-- the stands under the node of stand i's first l bytes
abbrev pub stands_under : List ℕ → ℕ → ℕ → List ℕ
stands_under shared i l = span i (end_of shared i l)

abbrev pub growth : List ℕ → List ℕ → ℕ → ℕ
growth lengths shared k = at lengths k - at shared k

-- how many nodes the stands i .. e - 1 make
unfoldable pub grown_of : List ℕ → List ℕ → ℕ → ℕ → ℕ
grown_of lengths shared i e = total (each (growth lengths shared) (span i e))

-- of the stands s, those of region r
unfoldable pub stands_in : List ℕ → ℕ → List ℕ → List ℕ
stands_in region r s = keep (λ i. eqb (at region i) r) s

-- whether region r holds one of them
unfoldable pub held_among : List ℕ → List ℕ → ℕ → Bool
held_among region s r = not (is_empty (stands_in region r s))

abbrev pub regions_among : List ℕ → List ℕ → List ℕ
regions_among region s = keep (held_among region s) (up_to regions)

-- the regions that hold one of them, as bits
abbrev pub bits_among : List ℕ → List ℕ → ℕ
bits_among region s = word_of (held_among region s) 0 64

-- region r's entry, its first place in the stand order being the next one there
unfoldable pub entry_among : List ℕ → List ℕ → List ℕ → List ℕ → ℕ → Entry
entry_among region score next s r =
    record { region = r; score = largest (each (at score) (stands_in region r s)); first = at next r; past = at next r + length (stands_in region r s) }

unfoldable pub entries_among : List ℕ → List ℕ → List ℕ → List ℕ → List Entry
entries_among region score next s = sort_by ahead (each (entry_among region score next s) (regions_among region s))

-- stand i's region is r
abbrev pub RegionAt : List ℕ → ℕ → ℕ → Type 0
RegionAt region i r = (r ≡ at region i) × (r < 64)

-- a slot for each region
abbrev pub Sized : List ℕ → Type 0
Sized l = length l ≡ 64

-- what a walk over the stands s leaves: of each region that holds one, the place past its last and the largest score
pub record Tallied (region score next s places best : List ℕ) (bits : ℕ) : Type 0 where
  pub word : bits ≡ bits_among region s
  pub past : (r : ℕ) → r < 64 → held_among region s r ≡ true → at places r ≡ at next r + length (stands_in region r s)
  pub most : (r : ℕ) → r < 64 → held_among region s r ≡ true → at best r ≡ largest (each (at score) (stands_in region r s))
  pub places_size : Sized places
  pub best_size : Sized best

-- region r's entry, read from the slots
abbrev pub entry_from : List ℕ → List ℕ → List ℕ → ℕ → Entry
entry_from best next places r = record { region = r; score = at best r; first = at next r; past = at places r }

-- the entries of the first so many ranked regions
unfoldable pub entries_from : List ℕ → List ℕ → List ℕ → List ℕ → ℕ → List Entry
entries_from best next places ranked held = each (entry_from best next places) (take held ranked)

-- regions in the order of their entries: a larger score first, of equal ones the smaller region
abbrev pub by_best : List ℕ → ℕ → ℕ → Bool
by_best best = leads (at best) (λ r. r)

-- the first so many of the ranked regions are the regions l in that order
pub record Ranks (best l ranked : List ℕ) (held : ℕ) : Type 0 where
  pub order : take held ranked ≡ sort_by (by_best best) l
  pub count : held ≡ length l
  pub few : held ≤ 64
  pub small : (k : ℕ) → k < held → at ranked k < 64
  pub size : Sized ranked

-- with one region more in its place
abbrev pub RegionSettled : List ℕ → List ℕ → ℕ → ℕ → List ℕ → Type 0
RegionSettled best ranked held r ranked' = (take (suc held) ranked' ≡ insert_by (by_best best) r (take held ranked)) × (Sized ranked')
