-- What the calls about one node ask of the columns, the cursor and the slots that they are given.
use Rattle.std.specs.Prelude.{◌≡◌, List, ℕ, ◌+◌, ◌≤◌, ◌<◌, length}
use Rattle.node.specs.declared.cursor.Cursor.{Cursor}
use Rattle.node.specs.declared.Gathered.{Gathered}
use Rattle.node.specs.declared.Work.{Work}
use Rattle.node.specs.Columns.{IndexColumns, at, Placed, Sized, InColumn, end_of, Ranks}
use Rattle.node.specs.declared.records.Served.{Served}
use Rattle.node.specs.Visits.{places_at, On, Long, kept_of}

-- ---- the cursor

pub record StepAsks (lengths shared : List ℕ) (c : Cursor) (held kept : ℕ) : Type 0 where
  pub on : On lengths shared c
  pub low : c.number.0 < 100000
  pub fits : c.entries + held < 4294967296
  pub records_fit : c.records + kept < 4294967296

pub record PassAsks (region next : List ℕ) (from to : ℕ) : Type 0 where
  pub placed : Placed region
  pub run : InColumn region from to
  pub places : next ≡ places_at region from

pub record AdvanceAsks (t : IndexColumns) (c : Cursor) (g : Gathered) (s : Served) (w : Work) : Type 0 where
  pub step : StepAsks t.lengths t.shared c g.held (kept_of s)
  pub held : g.held ≤ 64
  pub places : w.next ≡ places_at t.region c.stand.0
  pub long : Long w.above

-- ---- what lies under its node

-- no next place is past the stands
abbrev pub Low : List ℕ → Type 0
Low next = (r : ℕ) → r < 64 → at next r ≤ 1024

pub record TallyAsks (region score : List ℕ) (first past : ℕ) (w : Work) : Type 0 where
  pub placed : Placed region
  pub scored : length score ≡ length region
  pub run : InColumn region first past
  pub low : Low w.next
  pub places_size : Sized w.places
  pub best_size : Sized w.best

pub record SettleAsks (best ranked : List ℕ) (held r : ℕ) : Type 0 where
  pub room : held < 64
  pub small : r < 64
  pub so_far : (l : List ℕ) × Ranks best l ranked held

pub record GatherAsks (t : IndexColumns) (c : Cursor) (w : Work) : Type 0 where
  pub within : c.stand.0 ≤ length t.shared
  pub low : Low w.next
  pub places_size : Sized w.places
  pub best_size : Sized w.best
  pub ranked_size : Sized w.ranked

-- ---- its row

pub record LastAsks (text starts : List ℕ) (i l : ℕ) : Type 0 where
  pub short : l ≤ 24
  pub inside : 0 < l → (i < length starts) × (at starts i + l ≤ length text)

pub record PastAsks (lengths : List ℕ) (c : Cursor) (e : ℕ) : Type 0 where
  pub run : InColumn lengths c.stand.0 e
  pub low : c.number.0 < 100000
  pub long : c.length ≤ at lengths c.stand.0
  pub some : c.stand.0 < length lengths → c.stand.0 < e

pub record RowAsks (t : IndexColumns) (path : List ℕ) (c : Cursor) (e : ℕ) (s : Served) : Type 0 where
  pub on : On t.lengths t.shared c
  pub low : c.number.0 < 100000
  pub size : length path ≡ 25
  pub past : e ≡ end_of t.shared c.stand.0 c.length
  pub within : e ≤ length t.lengths
