-- What a range question promises that starts from a listing.
use Rattle.std.specs.Prelude.{List, ℕ}
use Rattle.rules.specs.declared.Grid.{Grid}
use Rattle.rules.specs.declared.Rect.{Rect}
use Rattle.rules.specs.Outcomes.{Outcome, refused, range_outcome}
use Rattle.rules.specs.Tables.{Table}
use Rattle.rules.specs.Indexes.{Index}
use Rattle.walk.specs.Listings.{Listed}
use Rattle.runs.specs.Promises.{RectFrom}

abbrev pub RangeFrom : Table → Grid → Index → Listed → Rect → List (List ℕ) → Outcome → Type 0
RangeFrom t g x at r rooms o = RectFrom (λ n list. range_outcome n list rooms) (refused 7 rooms) t.east t.north g x.order x.entries at r o
