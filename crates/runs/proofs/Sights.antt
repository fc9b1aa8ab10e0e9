-- Where a stand is, what it says of the columns that they agree, and that the runs which there are to look at can be walked through.
-- Assumes nothing.
use mathlib.Core.Path.{◌≡◌, refl, sym, ap, ◌∙◌, subst}
use mathlib.Core.Logic.{inl, inr}
use mathlib.Core.Bool.{Bool, true, false, cond}
use mathlib.Core.List.{List, [], ◌∷◌}
use Prim.Native.Nat.{ℕ, ◌≤◌, ◌<◌}
use lib.IntN.{ℤ}
use borrow.Table.Steps.{cases}
use lib.ListN.{length, get_or}
use borrow.Author.Tests.{leb-true, lt-ltb, le-ltb}
use Rattle.std.specs.Prelude.{is_ok, Option, Some, None, Result, Ok, Err}
use Rattle.base.specs.Lists.{In, is_empty}
use Rattle.base.proofs.Tests.{every-at}
use Rattle.rules.specs.declared.Grid.{Grid}
use Rattle.rules.specs.declared.Broken.{Broken}
use Rattle.rules.specs.declared.Rect.{Rect}
use Rattle.rules.specs.declared.Refusal.{Refusal}
use Rattle.rules.specs.Places.{grid_lawful, rect_lawful}
use Rattle.grid.specs.Cells.{cells_of, both_cells, regions_in}
use Rattle.grid.proofs.Listed.{listed_few}
use Rattle.walk.specs.declared.listing.Listing.{Listing}
use Rattle.walk.specs.Walks.{broken}
use Rattle.walk.specs.Listings.{Listed}
use Rattle.runs.specs.Notes.{notes_in, blank}
use Rattle.runs.specs.Sights.{sighted, known, noted_in, agree, agreed, Ready, Look, look_by, listed_look, straight_look, look_at}
use Rattle.runs.proofs.Noting.{notes_small}

-- ---- one stand

pub is_unknown : (east north : List ℤ) (s : ℕ) → length east ≤ s → Err broken ≡ sighted east north s
unfolding sighted
is_unknown east north s h = rw (le-ltb s (length east) h)

pub known_of : (east : List ℤ) (l : List ℕ) → ((s : ℕ) → In s l → s < length east) → known east l ≡ true
known_of east [] h = refl
known_of east (s ∷ l) h = rw (lt-ltb s (length east) (h s (inl refl))) (known_of east l (λ x k. h x (inr k)))

-- ---- the columns

-- what an answer says of the test
module _ (east north : List ℤ) (order : List ℕ) (a : Result Unit Broken) (e : a ≡ agreed east north order) where
  test_is : agree east north order ≡ is_ok a
  test_is = cases (agree east north order) (λ h. rw (h, e, h)) (λ h. rw (h, e, h))

  pub agrees : (u : Unit) → a ≡ Ok u → agree east north order ≡ true
  agrees u q = test_is ∙ ap is_ok q

module _ (east north : List ℤ) (order : List ℕ) (h : agree east north order ≡ true) where
  pub stands_few : length east ≤ 1024
  unfolding agree
  stands_few = leb-true _ _ (every-at _ 0 h)

  pub norths_enough : length east ≤ length north
  unfolding agree
  norths_enough = leb-true _ _ (every-at _ 1 h)

  pub places_enough : length east ≤ length order
  unfolding agree
  places_enough = leb-true _ _ (every-at _ 2 h)

-- ---- the runs of the regions that it gives can be walked through

abbrev Small : Look → Type 0
Small (Look.regions wanted first numbers) = (r : ℕ) → get_or numbers r 0 < 64
Small Look.nothing = Unit {0}
Small (Look.refused n) = Unit {0}

either_small : (test : Bool) (look other : Look) → Small look → Small other → Small (cond test look other)
either_small true look other h k = h
either_small false look other h k = k

straight_small : (grid : Grid) (entries : List ℕ) (at : Listed) (rect : Rect) → Small (straight_look grid entries at rect)
unfolding listed_look
straight_small grid entries (Ok (Some l)) rect =
    let notes = notes_in entries l.first (length (regions_in l.regions)) blank in
    either_small (grid_lawful grid) _ _
    (either_small (is_empty (regions_in (both_cells l.regions (cells_of grid rect)))) _ _ tt
    (either_small notes.whole _ _ (notes_small entries l.first (length (regions_in l.regions)) (listed_few l.regions)) tt)) tt
straight_small grid entries (Ok None) rect = tt
straight_small grid entries (Err e) rect = tt

pub look-ready : (east north : List ℤ) (grid : Grid) (order entries : List ℕ) (at : Listed) (rect : Rect) (t : Result (Option Listing) Refusal) (numbers : List ℕ) → look_by t numbers ≡ look_at grid entries at rect
    → (touched : Listing) → t ≡ Ok (Some touched) → agree east north order ≡ true → Ready east north (noted_in east order entries touched.first numbers)
look-ready east north grid order entries at rect t numbers looks touched e h =
    let is : look_at grid entries at rect ≡ Look.regions (regions_in touched.regions) touched.first numbers = sym looks ∙ rw e in
    record { all = refl; agreed = h; small = subst Small is (either_small (rect_lawful rect) _ _ (straight_small grid entries at rect) tt) }
