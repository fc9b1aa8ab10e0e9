-- What the range question makes of the stands that it looks at, on any words: those in the rectangle counted and written, and the outcome.
use Rattle.std.specs.Prelude.{cond, List, [], ◌∷◌, ℕ, suc, ℤ, set, Result, Ok, Err}
use Rattle.base.specs.Lists.{keep}
use Rattle.rules.specs.declared.Broken.{Broken}
use Rattle.rules.specs.declared.Rect.{Rect}
use Rattle.rules.specs.Outcomes.{Outcome, refused, range_outcome}
use Rattle.walk.specs.Walks.{broken}
use Rattle.runs.specs.Sights.{inside, sighted, by_sight, known}

-- how many were found, and the room
pub record Gathered : Type 0 where
  pub tally : Result ℕ Broken
  pub room : List ℕ

abbrev pub tallied : Result ℕ Broken → List ℕ → Gathered
tallied tally room = record { tally = tally; room = room }

-- behind n that were found before, those of the stands that are in the rectangle; broken at the first that is not of the table
unfoldable pub gathered : List ℤ → List ℤ → Rect → List ℕ → ℕ → List ℕ → Gathered
gathered east north rect room n [] = tallied (Ok n) room
gathered east north rect room n (s ∷ l) =
    by_sight (sighted east north s) rect (gathered east north rect (set room n s) (suc n) l) (gathered east north rect room n l) (tallied (Err broken) room)

-- the outcome of some stands that were looked at: 7 where one is not of the table
unfoldable pub looked : List ℤ → List ℤ → Rect → List ℕ → List ℕ → Outcome
looked east north rect seen room = cond (known east seen) (range_outcome 0 (keep (inside east north rect) seen) (room ∷ [])) (refused 7 (room ∷ []))
