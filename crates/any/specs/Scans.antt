-- What the scan makes of the stands that it looks at, on any words.
use Rattle.std.specs.Prelude.{List, [], ◌∷◌, ℕ, ℤ, Option, Some, None, Result, Ok, Err}
use Rattle.rules.specs.declared.Rect.{Rect}
use Rattle.rules.specs.declared.Refusal.{Refusal}
use Rattle.rules.specs.declared.Refusal.TheVariants.{NotLawful}
use Rattle.rules.specs.declared.Stand.{Stand}
use Rattle.runs.specs.Sights.{sighted, by_sight}

-- the first in the rectangle, if none that is not of the table comes before it
unfoldable pub first_seen : List ℤ → List ℤ → Rect → List ℕ → Result (Option Stand) Refusal
first_seen east north rect [] = Ok None
first_seen east north rect (s ∷ l) = by_sight (sighted east north s) rect (Ok (Some (record { 0 = s }))) (first_seen east north rect l) (Err NotLawful)
