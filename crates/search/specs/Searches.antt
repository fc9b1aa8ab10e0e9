-- The search as the code goes it: the keys held, largest first, or words that are broken.
-- Nobody has to believe these definitions: the crate `ranked` proves them right on lawful sets.
use Rattle.std.specs.Prelude.{◌≡◌, Bool, true, cond, ◌&&◌, List, [], ◌∷◌, ℕ, zero, suc, ◌-◌, ◌≤◌, ◌<◌, ℤ, ltb, leb, length, take, get_or, Result, Ok, Err}
use Rattle.std.proofs.Math.Seq.{slice}
use Rattle.base.specs.Lists.{every, each, insert_by, written}
use Rattle.rules.specs.declared.Broken.{Broken}
use Rattle.rules.specs.declared.Grid.{Grid}
use Rattle.rules.specs.declared.Ranking.{Ranking}
use Rattle.rules.specs.declared.Hit.{Hit}
use Rattle.rules.specs.Places.{in_grid}
use Rattle.rules.specs.Worth.{value_at, value_of, bound_of}
use Rattle.rules.specs.Tables.{Table, place_in}
use Rattle.rules.specs.Outcomes.{Outcome, refused, ranked_outcome}
use Rattle.grid.specs.Cells.{regions_in}
use Rattle.grid.specs.Ways.{Weighable}
use Rattle.walk.specs.declared.entry.Entry.{Entry}
use Rattle.walk.specs.declared.listing.Listing.{Listing}
use Rattle.walk.specs.Walks.{broken}
use Rattle.walk.specs.Entries.{entry_within, entry_read}
use Rattle.best.specs.Keys.{key_of, value_in, stand_in, hit_of_key, larger}
use Rattle.search.specs.declared.search.Search as lent

-- the parts of a table that are read of a stand
pub record StandColumns : Type 0 where
  pub east : List ℤ
  pub north : List ℤ
  pub score : List ℕ

abbrev pub stand_columns : List ℤ → List ℤ → List ℕ → StandColumns
stand_columns east north score = record { east = east; north = north; score = score }

abbrev pub table_columns : Table → StandColumns
table_columns t = stand_columns t.east t.north t.score

-- those that a search goes by
abbrev pub columns_of : lent.Search → StandColumns
columns_of s = stand_columns s.east.now s.north.now s.score.now

-- what a search has come to: the keys held, or words that are broken
abbrev pub Kept : Type 0
Kept = Result (List ℕ) Broken

abbrev pub and_then : Kept → (List ℕ → Kept) → Kept
and_then (Ok l) next = next l
and_then (Err e) next = Err e

-- ---- keys

-- a stand with this score, d metres away
abbrev pub hit_at : ℕ → Ranking → ℕ → ℕ → ℕ → Hit
hit_at D q score d stand = record { stand = stand; value = value_at D q.weight score d }

-- what is in its limits, so that a key has room for it
pub record Keyable (D : ℕ) (q : Ranking) (score d stand : ℕ) : Type 0 where
  pub weighs : Weighable D q.weight score
  pub near : d ≤ D
  pub below : stand < 1024

-- ---- stands

unfoldable pub readable_stand : StandColumns → Grid → ℕ → Bool
readable_stand c g s =
    every
    (ltb s 1024
    ∷ ltb s (length c.east)
    ∷ ltb s (length c.north)
    ∷ ltb s (length c.score)
    ∷ leb (get_or c.score s 0) 1000
    ∷ in_grid g (place_in c.east c.north s)
    ∷ [])

abbrev pub hit_in : StandColumns → Grid → Ranking → ℕ → Hit
hit_in c g q s = record { stand = s; value = value_of g q.weight (get_or c.score s 0) (place_in c.east c.north s) q.place }

unfoldable pub stand_offered : StandColumns → Grid → Ranking → ℕ → List ℕ → Kept
stand_offered c g q s held = cond (readable_stand c g s) (Ok (take q.k (insert_by larger (key_of (hit_in c g q s)) held))) (Err broken)

unfoldable pub stands_offered : StandColumns → Grid → Ranking → List ℕ → List ℕ → Kept
stands_offered c g q [] held = Ok held
stands_offered c g q (s ∷ ss) held = and_then (stand_offered c g q s held) (λ more. stands_offered c g q ss more)

-- from one place of the order on, short of another
pub record RunHeld (order : List ℕ) (first past : ℕ) : Type 0 where
  pub forward : first ≤ past
  pub inside : past ≤ length order

-- ---- entries

-- of an entry that was read
unfoldable pub usable : List ℕ → Entry → Bool
usable order x = every (leb x.score 1000 ∷ ltb x.first.0 x.past.0 ∷ ltb (get_or order x.first.0 0) 1024 ∷ [])

pub record MayTake (order : List ℕ) (x : Entry) : Type 0 where
  pub inside : entry_within (length order) x ≡ true
  pub sound : usable order x ≡ true

-- a stand with an entry's bound for its value and the entry's first number
abbrev pub bound_hit : Grid → Ranking → List ℕ → Entry → Hit
bound_hit g q order x = record { stand = get_or order x.first.0 0; value = bound_of g q.weight x.score x.region q.place }

-- k are held, and the last of them goes before this key
unfoldable pub passed_over : ℕ → List ℕ → ℕ → Bool
passed_over k held key = leb k (length held) && ltb key (get_or held (k - 1) 0)

unfoldable pub entry_taken : StandColumns → Grid → Ranking → List ℕ → Entry → List ℕ → Kept
entry_taken c g q order x held =
    cond (passed_over q.k held (key_of (bound_hit g q order x))) (Ok held)
    (stands_offered c g q (slice x.first.0 x.past.0 order) held)

abbrev pub read_taken : StandColumns → Grid → Ranking → List ℕ → Result Entry Broken → List ℕ → Kept
read_taken c g q order (Ok x) held = cond (usable order x) (entry_taken c g q order x held) (Err broken)
read_taken c g q order (Err e) held = Err e

-- n entries from e on
unfoldable pub entries_taken : StandColumns → Grid → Ranking → List ℕ → List ℕ → ℕ → ℕ → List ℕ → Kept
entries_taken c g q order entries zero e held = Ok held
entries_taken c g q order entries (suc n) e held =
    and_then (read_taken c g q order (entry_read entries (length order) e) held) (λ more. entries_taken c g q order entries n (suc e) more)

-- of a listing: an entry for each of its regions
abbrev pub listed_on : StandColumns → Grid → Ranking → List ℕ → List ℕ → Listing → List ℕ → Kept
listed_on c g q order entries l held = entries_taken c g q order entries (length (regions_in l.regions)) l.first held

-- ---- what the calls promise

-- the search that a step's answer and the keys held after it stand for
abbrev pub kept_of : Result Unit Broken → List ℕ → Kept
kept_of (Ok u) held = Ok held
kept_of (Err e) held = Err e

pub record Keeps (s : Kept) (k : ℕ) (held : List ℕ) (r : Result Unit Broken) : Type 0 where
  pub is : kept_of r held ≡ s
  pub few : length held ≤ k

-- a place in both rooms for each key
pub record Writable (held found values : List ℕ) : Type 0 where
  pub stands_fit : length held ≤ length found
  pub values_fit : length held ≤ length values

-- the stands and values of these keys are written to the two rooms, and nothing else
pub record Written (l found values found' values' : List ℕ) : Type 0 where
  pub stands : found' ≡ written (each stand_in l) found
  pub worths : values' ≡ written (each value_in l) values

-- broken words are refused, keys held come to what their hits do
abbrev pub Answers : Kept → ℕ → List (List ℕ) → Outcome → Type 0
Answers (Ok l) k rooms o = o ≡ ranked_outcome 0 k (each hit_of_key l) rooms
Answers (Err e) k rooms o = o ≡ refused 7 rooms

-- nothing is held before
abbrev pub listed_taken : StandColumns → Grid → Ranking → List ℕ → List ℕ → Listing → Kept
listed_taken c g q order entries l = listed_on c g q order entries l []

-- whether north and score have a word for each that east has
unfoldable pub as_long : StandColumns → Bool
as_long c = leb (length c.east) (length c.north) && leb (length c.east) (length c.score)

-- all three as long as east
abbrev pub cut : StandColumns → StandColumns
cut c = stand_columns c.east (take (length c.east) c.north) (take (length c.east) c.score)

abbrev pub listed_search : StandColumns → Grid → Ranking → List ℕ → List ℕ → Listing → Kept
listed_search c g q order entries l = cond (as_long c) (listed_taken (cut c) g q order entries l) (Err broken)

abbrev pub BestListed : StandColumns → Grid → Ranking → List ℕ → List ℕ → Listing → List (List ℕ) → Outcome → Type 0
BestListed c g q order entries l rooms o = Answers (listed_search c g q order entries l) q.k rooms o
