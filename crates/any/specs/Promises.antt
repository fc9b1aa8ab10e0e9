-- What the question whether there is any stand promises that starts from a listing.
use Rattle.rules.specs.declared.Grid.{Grid}
use Rattle.rules.specs.declared.Rect.{Rect}
use Rattle.rules.specs.Numbers.{AnyTold, refusing_any}
use Rattle.rules.specs.Tables.{Table}
use Rattle.rules.specs.Outcomes.{any_outcome}
use Rattle.rules.specs.Indexes.{Index}
use Rattle.walk.specs.Listings.{Listed}
use Rattle.runs.specs.Promises.{RectFrom}

abbrev pub AnyFrom : Table → Grid → Index → Listed → Rect → AnyTold → Type 0
AnyFrom t g x at r o = RectFrom any_outcome (refusing_any 7) t.east t.north g x.order x.entries at r o
