-- Parts of a table's text: the span of a stand's name, and the rest of a name as the part that is handed back.
-- Which bytes those are, and where they begin, the rules say.
use Rattle.std.specs.Prelude.{◌≡◌, List, ℕ, ◌+◌, ◌-◌, ◌≤◌, ◌<◌, length, take, drop}
use Rattle.rules.specs.Names.{name, name_at, rest_of, rest_at}
use Rattle.table.specs.declared.names.Span.{Span}

-- a span lies in the text, where a stand's name does
pub record Spans (text starts : List ℕ) (i : ℕ) (s : Span) : Type 0 where
  pub forward : s.from ≤ s.past
  pub inside : s.past ≤ length text
  pub holds : take (s.past - s.from) (drop s.from text) ≡ name text starts i
  pub begins : s.from ≡ name_at text starts i
  -- as every start does
  pub fits : s.past < 4294967296

-- a span lies in the text, where the rest of a stand's name after a typed text does
pub record RestSpans (text starts : List ℕ) (i : ℕ) (typed : List ℕ) (s : Span) : Type 0 where
  pub forward : s.from ≤ s.past
  pub inside : s.past ≤ length text
  pub holds : take (s.past - s.from) (drop s.from text) ≡ rest_of text starts i typed
  pub begins : s.from ≡ rest_at text starts i typed
  pub fits : s.past < 4294967296

-- the rest of stand i's name after a typed text, as a part of the text: its bytes, and its place in memory by that of the whole
pub record Rest (text starts : List ℕ) (i : ℕ) (typed : List ℕ) (whole : ℕ × ℕ) (part : List ℕ) (place : ℕ × ℕ) : Type 0 where
  pub bytes : part ≡ rest_of text starts i typed
  pub block : place.0 ≡ whole.0
  pub offset : place.1 ≡ whole.1 + rest_at text starts i typed
