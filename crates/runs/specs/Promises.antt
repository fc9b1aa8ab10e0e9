-- What a question about a rectangle promises that starts from a listing, and what it has to make of the stands that there are to look at.
-- comes_to is what a refusal and a list of stands come to.
use Rattle.std.specs.Prelude.{◌≡◌, true, List, [], ℕ, ℤ}
use Rattle.base.specs.Lists.{keep}
use Rattle.rules.specs.declared.Grid.{Grid}
use Rattle.rules.specs.declared.Rect.{Rect}
use Rattle.rules.specs.Questions.{range_list, rect_refusal}
use Rattle.rules.specs.Promises.{Harmless}
use Rattle.walk.specs.Listings as listings
use Rattle.walk.specs.Asked.{Listed, FromPromise}
use Rattle.runs.specs.Sights.{inside, known, Met}

-- of a set it is lent the stands' places, the order and the entries; their scores may be any
abbrev pub RectFrom : {Out : Type 0} → (ℕ → List ℕ → Out) → (seven : Out) → List ℤ → List ℤ → Grid → List ℕ → List ℕ → listings.Listed → Rect → Out → Type 0
RectFrom comes_to seven east north g order entries at r o =
    FromPromise (λ t p. Listed east north t.score g order entries at t p) (comes_to (rect_refusal r)) (λ t p. range_list t g p r) seven o

-- what those in the rectangle come to, if all that were seen are of the table; of any others nothing that does harm
pub record Sees {Out : Type 0} (comes_to : List ℕ → Out) (seven : Out) (east north : List ℤ) (rect : Rect) (seen : List ℕ) (o : Out) : Type 0 where
  pub exact : known east seen ≡ true → o ≡ comes_to (keep (inside east north rect) seen)
  pub harmless : Harmless comes_to seven o

abbrev pub Answers : {Out : Type 0} → (ℕ → List ℕ → Out) → (ℕ → Out) → Rect → Met → Out → Type 0
Answers comes_to refused rect (Met.stands east north seen) o = Sees (comes_to 0) (refused 7) east north rect seen o
Answers comes_to refused rect Met.nothing o = o ≡ comes_to 0 []
Answers comes_to refused rect (Met.refused n) o = o ≡ refused n
