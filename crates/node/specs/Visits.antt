-- The walk through the nodes in pre-order, from the columns alone: which nodes, what lies above each, and where regions' stands begin.
use Rattle.std.specs.Prelude.{◌≡◌, Bool, cond, not, ◌||◌, List, [], ◌∷◌, ◌++◌, ℕ, suc, ◌+◌, ◌-◌, ◌/◌, ◌%◌, ◌≤◌, ◌<◌, eqb, ltb, length, set}
use Rattle.base.specs.Lists.{from_on, up_to, keep, each, each_list}
use Rattle.std.specs.Int.{from_bool}
use Rattle.rules.specs.Places.{regions}
use Rattle.node.specs.Columns.{IndexColumns, at, grown_of, stands_in}
use Rattle.node.specs.declared.Above.{Above}
use Rattle.node.specs.declared.Work.{Work}
use Rattle.node.specs.declared.Gathered.{Gathered}
use Rattle.node.specs.declared.cursor.Cursor.{Cursor}
use Rattle.node.specs.declared.records.Served.{Served}

-- a node, as the first length bytes of a stand's name, the first stand that has it
pub record Visit : Type 0 where
  pub stand : ℕ
  pub length : ℕ

-- those of stand i from length l on
abbrev pub visits_at : List ℕ → ℕ → ℕ → List Visit
visits_at lengths i l = each (λ k. record { stand = i; length = k }) (from_on l (suc (at lengths i) - l))

-- those of stand i that the stand before has not
abbrev pub new_visits : List ℕ → List ℕ → ℕ → List Visit
new_visits lengths shared i = visits_at lengths i (suc (at shared i))

-- the node of stand i's first l bytes and all that follow it
unfoldable pub visits_from : List ℕ → List ℕ → ℕ → ℕ → List Visit
visits_from lengths shared i l = visits_at lengths i l ++ each_list (new_visits lengths shared) (from_on (suc i) (length lengths - suc i))

-- how many nodes the stands before i make, the root with them
abbrev pub grown_before : List ℕ → List ℕ → ℕ → ℕ
grown_before lengths shared i = suc (grown_of lengths shared 0 i)

-- how many stands lie in regions below r
unfoldable pub below_of : List ℕ → ℕ → ℕ
below_of region r = length (keep (λ k. ltb (at region k) r) (up_to (length region)))

-- where in the stand order the first of region r stands, of the stands from i on
unfoldable pub place_at : List ℕ → ℕ → ℕ → ℕ
place_at region i r = below_of region r + length (stands_in region r (up_to i))

unfoldable pub places_at : List ℕ → ℕ → List ℕ
places_at region i = each (place_at region i) (up_to regions)

abbrev pub root_cursor : Cursor
root_cursor = record { stand = record { 0 = 0 }; length = 0; number = record { 0 = 0 }; entries = 0; records = 0 }

-- the cursor is at a node
pub record On (lengths shared : List ℕ) (c : Cursor) : Type 0 where
  pub within : c.stand.0 ≤ length lengths
  pub long : c.length ≤ at lengths c.stand.0
  pub new : 0 < c.stand.0 → at shared c.stand.0 < c.length
  pub count : c.number.0 + suc (at shared c.stand.0) ≡ grown_before lengths shared c.stand.0 + c.length

-- r is the cursor past c, whose node has so many entries and keeps so many bit records
pub record Stepped (lengths shared : List ℕ) (c : Cursor) (held kept : ℕ) (r : Cursor) : Type 0 where
  pub visits : visits_from lengths shared r.stand.0 r.length ≡ visits_from lengths shared c.stand.0 (suc c.length)
  pub number : r.number.0 ≡ suc c.number.0
  pub entries : r.entries ≡ c.entries + held
  pub records : r.records ≡ c.records + kept
  pub after : c.stand.0 ≤ r.stand.0
  pub within : r.stand.0 ≤ length lengths
  pub some : 0 < r.length
  pub on : r.stand.0 < length lengths → On lengths shared r

-- ---- the nodes above

abbrev pub above_of : List ℕ → List ℕ → List ℕ → Above
above_of numbers records regions = record { numbers = numbers; records = records; regions = regions }

-- a place for each length
pub record Long (a : Above) : Type 0 where
  pub numbers : length a.numbers ≡ 25
  pub records : length a.records ≡ 25
  pub regions : length a.regions ≡ 25

-- a node put there, for those under it
abbrev pub on_path : Above → (length number served bits : ℕ) → Above
on_path a l number served bits = above_of (set a.numbers l number) (set a.records l served) (set a.regions l bits)

-- what lies above at length l - 1; 0 for the root
abbrev pub above_in : List ℕ → ℕ → ℕ
above_in path l = cond (eqb l 0) 0 (at path (l - 1))

-- whether a node with these regions keeps a record of its own: not if the node above has the same
unfoldable pub keeps_in : List ℕ → ℕ → ℕ → Bool
keeps_in regions l bits = eqb l 0 || not (eqb (at regions (l - 1)) bits)

-- the record that serves it, its own being the next one
unfoldable pub served_in : (records regions : List ℕ) (length next bits : ℕ) → Served
served_in records regions l next bits =
    record { number = cond (keeps_in regions l bits) next (above_in records l); own = keeps_in regions l bits }

-- how many a node keeps that is served so
abbrev pub kept_of : Served → ℕ
kept_of s = from_bool s.own

-- the two words of a record
abbrev pub halves_of : ℕ → List ℕ
halves_of bits = bits % 4294967296 ∷ bits / 4294967296 ∷ []

-- r is the cursor past c, with what is lent beside it: the next places, and what lies above, the node itself now with it
pub record Advanced (t : IndexColumns) (c : Cursor) (g : Gathered) (s : Served) (w w' : Work) (r : Cursor) : Type 0 where
  pub stepped : Stepped t.lengths t.shared c g.held (kept_of s) r
  pub places : w'.next ≡ places_at t.region r.stand.0
  pub path : w'.above ≡ on_path w.above c.length c.number.0 s.number g.bits
  pub slots : (w'.places ≡ w.places) × (w'.best ≡ w.best) × (w'.ranked ≡ w.ranked)
