-- What there is to look at for a rectangle, past a text's listing: the stands of some regions' runs, or a refusal. On any words.
use Rattle.std.specs.Prelude.{◌≡◌, Option, Some, None, Result, Ok, Err, Bool, true, cond, List, [], ◌∷◌, ℕ, ◌+◌, ◌<◌, ltb, leb, ℤ, length, get_or}
use Rattle.std.proofs.Math.Seq.{slice}
use Rattle.std.specs.Borrow.{Bor}
use Rattle.base.specs.Lists.{all, every, each_list, is_empty}
use Rattle.rules.specs.declared.Broken.{Broken}
use Rattle.rules.specs.declared.Grid.{Grid}
use Rattle.rules.specs.declared.Place.{Place}
use Rattle.rules.specs.declared.Rect.{Rect}
use Rattle.rules.specs.declared.Refusal.{Refusal}
use Rattle.rules.specs.Numbers.{refusal_number}
use Rattle.rules.specs.Places.{grid_lawful, rect_lawful, in_rect}
use Rattle.rules.specs.Tables.{place_in}
use Rattle.grid.specs.declared.cells.Cells.{Cells}
use Rattle.grid.specs.Cells.{cells_of, both_cells, regions_in}
use Rattle.walk.specs.declared.entry.Entry.{Entry}
use Rattle.walk.specs.declared.listing.Listing.{Listing}
use Rattle.walk.specs.Walks.{broken}
use Rattle.walk.specs.Listings.{Listed}
use Rattle.walk.specs.Entries.{entry_read}
use Rattle.runs.specs.Notes.{Notes, notes_in, blank}

-- ---- one stand

abbrev pub inside : List ℤ → List ℤ → Rect → ℕ → Bool
inside east north rect s = in_rect rect (place_in east north s)

unfoldable pub sighted : List ℤ → List ℤ → ℕ → Result Place Broken
sighted east north s = cond (ltb s (length east)) (Ok (place_in east north s)) (Err broken)

-- one of three, by where a stand is: in the rectangle, out of it, or nowhere
abbrev pub by_sight : {A : Type 0} → Result Place Broken → Rect → (in_it out-of-it unknown : A) → A
by_sight (Ok p) rect a b c = cond (in_rect rect p) a b
by_sight (Err e) rect a b c = c

-- whether all of a list are stands of the table
abbrev pub known : List ℤ → List ℕ → Bool
known east l = all (λ s. ltb s (length east)) l

-- ---- the stands of some regions

-- what says where they are: a listing's entries from the first on, the number of each region's entry, and the order of so many stands
pub record Noted : Type 0 where
  pub stands : ℕ
  pub order : List ℕ
  pub entries : List ℕ
  pub first : ℕ
  pub numbers : List ℕ

abbrev pub noted_in : List ℤ → List ℕ → List ℕ → ℕ → List ℕ → Noted
noted_in east order entries first numbers = record { stands = length east; order = order; entries = entries; first = first; numbers = numbers }

abbrev pub entry_noted : Noted → ℕ → Result Entry Broken
entry_noted n r = entry_read n.entries n.stands (n.first + get_or n.numbers r 0)

-- where an entry cannot be gone by there is one stand, and none of the table
abbrev pub run_by : Noted → Result Entry Broken → List ℕ
run_by n (Ok e) = slice e.first.0 e.past.0 n.order
run_by n (Err e) = n.stands ∷ []

abbrev pub run_of : Noted → ℕ → List ℕ
run_of n r = run_by n (entry_noted n r)

abbrev pub touched_stands : Noted → List ℕ → List ℕ
touched_stands n regions = each_list (run_of n) regions

-- a region's run, or why its entry cannot be gone by
abbrev pub run_told : Noted → Result Entry Broken → Result (List ℕ) Broken
run_told n (Ok e) = Ok (slice e.first.0 e.past.0 n.order)
run_told n (Err e) = Err e

-- what the code finds of a region's run
abbrev pub run_found : Result (Bor (List ℕ)) Broken → Result (List ℕ) Broken
run_found (Ok run) = Ok run.now
run_found (Err e) = Err e

abbrev pub run_seen : Noted → Result (Bor (List ℕ)) Broken → List ℕ
run_seen n (Ok run) = run.now
run_seen n (Err e) = n.stands ∷ []

unfoldable pub agree : List ℤ → List ℤ → List ℕ → Bool
agree east north order = every (leb (length east) 1024 ∷ leb (length east) (length north) ∷ leb (length east) (length order) ∷ [])

abbrev pub agreed : List ℤ → List ℤ → List ℕ → Result Unit Broken
agreed east north order = cond (agree east north order) (Ok tt) (Err broken)

-- what a walk through the runs asks for: the stands all have a place and a place in the order, and no number is of a 65th entry
pub record Ready (east north : List ℤ) (n : Noted) : Type 0 where
  pub all : n.stands ≡ length east
  pub agreed : agree east north n.order ≡ true
  pub small : (r : ℕ) → get_or n.numbers r 0 < 64

-- ---- the whole

pub data Look : Type 0 where
  regions : (wanted : List ℕ) (first : ℕ) (numbers : List ℕ) → Look
  nothing : Look
  refused : (n : ℕ) → Look

-- what the code gives comes to, with what it noted
abbrev pub look_by : Result (Option Listing) Refusal → List ℕ → Look
look_by (Ok (Some touched)) numbers = Look.regions (regions_in touched.regions) touched.first numbers
look_by (Ok None) numbers = Look.nothing
look_by (Err why) numbers = Look.refused (refusal_number why)

abbrev pub noted_look : Notes → ℕ → List ℕ → Look
noted_look notes first wanted = cond notes.whole (Look.regions wanted first notes.numbers) (Look.refused 7)

-- with none wanted no entry is read
abbrev pub wanted_look : List ℕ → Cells → ℕ → List ℕ → Look
wanted_look entries cells first wanted = cond (is_empty wanted) Look.nothing (noted_look (notes_in entries first (length (regions_in cells)) blank) first wanted)

unfoldable pub listed_look : Grid → List ℕ → Cells → ℕ → Rect → Look
listed_look grid entries cells first rect = cond (grid_lawful grid) (wanted_look entries cells first (regions_in (both_cells cells (cells_of grid rect)))) (Look.refused 7)

abbrev pub straight_look : Grid → List ℕ → Listed → Rect → Look
straight_look grid entries (Ok (Some l)) rect = listed_look grid entries l.regions l.first rect
straight_look grid entries (Ok None) rect = Look.nothing
straight_look grid entries (Err e) rect = Look.refused 7

abbrev pub look_at : Grid → List ℕ → Listed → Rect → Look
look_at grid entries at rect = cond (rect_lawful rect) (straight_look grid entries at rect) (Look.refused 11)

-- ---- and of it the stands

-- the stands, with the columns that their places are in
pub data Met : Type 0 where
  stands : (east north : List ℤ) (seen : List ℕ) → Met
  nothing : Met
  refused : (n : ℕ) → Met

-- columns that do not agree are refused 7
abbrev pub look_met : List ℤ → List ℤ → List ℕ → List ℕ → Look → Met
look_met east north order entries (Look.regions wanted first numbers) =
    cond (agree east north order) (Met.stands east north (touched_stands (noted_in east order entries first numbers) wanted)) (Met.refused 7)
look_met east north order entries Look.nothing = Met.nothing
look_met east north order entries (Look.refused n) = Met.refused n
