-- What the ranked question promises that starts from a listing. What it promises of a text stands in the crate `rules`.
use Rattle.std.specs.Prelude.{List, ℕ}
use Rattle.rules.specs.declared.Grid.{Grid}
use Rattle.rules.specs.declared.Ranking.{Ranking}
use Rattle.rules.specs.Questions.{ranking, ranking_refusal}
use Rattle.rules.specs.Outcomes.{Outcome, refused, ranked_outcome}
use Rattle.walk.specs.Listings as listings
use Rattle.walk.specs.Asked.{Listed, FromPromise}
use Rattle.search.specs.Searches.{StandColumns}

abbrev pub RankedFrom : StandColumns → Grid → List ℕ → List ℕ → listings.Listed → Ranking → List (List ℕ) → Outcome → Type 0
RankedFrom c g order entries at q rooms o =
    FromPromise (Listed c.east c.north c.score g order entries at) (λ hits. ranked_outcome (ranking_refusal g q) q.k hits rooms) (λ t p. ranking t g p q) (refused 7 rooms) o
