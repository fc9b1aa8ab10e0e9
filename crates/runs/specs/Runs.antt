-- What runs as the code has them come to, and what the code that finds them has to give.
use Rattle.std.specs.Prelude.{Option, Some, None, Result, Ok, Err, List, ℕ, ℤ}
use Rattle.rules.specs.declared.Grid.{Grid}
use Rattle.rules.specs.declared.Rect.{Rect}
use Rattle.rules.specs.declared.Refusal.{Refusal}
use Rattle.rules.specs.Numbers.{refusal_number}
use Rattle.rules.specs.Tables.{Table}
use Rattle.rules.specs.Indexes.{Index}
use Rattle.grid.specs.Cells.{regions_in}
use Rattle.walk.specs.Listings.{Listed}
use Rattle.runs.specs.declared.Runs.{Runs}
use Rattle.runs.specs.Sights.{Noted, noted_in, touched_stands, look_at, Met, look_met}

abbrev pub easts : Runs → List ℤ
easts r = r.east.now

abbrev pub norths : Runs → List ℤ
norths r = r.north.now

abbrev pub noted : Runs → Noted
noted r = noted_in (easts r) r.order.now r.entries.now r.touched.first r.numbers.now

-- the stands that there are to look at
abbrev pub stands_there : Runs → List ℕ
stands_there r = touched_stands (noted r) (regions_in r.touched.regions)

-- what the code gives comes to
abbrev pub met_by : Result (Option Runs) Refusal → Met
met_by (Ok (Some r)) = Met.stands (easts r) (norths r) (stands_there r)
met_by (Ok None) = Met.nothing
met_by (Err why) = Met.refused (refusal_number why)

-- and what it has to come to
abbrev pub met_at : Table → Grid → Index → Listed → Rect → Met
met_at t g x at rect = look_met t.east t.north x.order x.entries (look_at g x.entries at rect)
