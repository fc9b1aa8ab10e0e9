-- A span of the text and the part that C is told.
-- Assumes nothing.
use mathlib.Core.Path.{◌≡◌, sym, ap, ◌∙◌}
use mathlib.Core.List.{List}
use Prim.Native.Nat.{ℕ, ◌-◌}
use native.Mathlib.Omega.{arith}
use lib.ListN.{length, drop, length-drop}
use lib.Seq.{length-take-le}
use Rattle.table.specs.declared.names.Span.{Span}
use Rattle.table.specs.Parts.{RestSpans}
use Rattle.finder_c.specs.Told.{RestPart}

pub told : (text starts : List ℕ) (i : ℕ) (typed : List ℕ) (s : Span) → RestSpans text starts i typed s
    → RestPart text starts i typed (record { start = s.from; length = s.past - s.from })
told text starts i typed s w =
    let e : length (drop s.from text) ≡ length text - s.from = length-drop s.from text in
    record {
      begins = w.begins;
      long = sym (length-take-le (s.past - s.from) (drop s.from text) (omega (arith, w.inside))) ∙ ap length w.holds;
    }
