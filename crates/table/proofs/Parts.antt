-- Parts of a text: a stand's name by its span, whether it begins with a typed text, and the rest of it behind that.
-- Assumes nothing.
use Prim.Native.Nat.{ℕ, ◌+◌, ◌-◌, ◌≤◌, ◌<◌, ◌/◌, ◌%◌}
use mathlib.Core.Path.{◌≡◌, refl, sym, ap, ◌∙◌}
use mathlib.Core.Bool.{true, false, ◌&&◌}
use mathlib.Core.List.{List}
use native.Mathlib.Numerals.{add-one}
use native.Mathlib.Omega.{arith}
use lib.Dec.{eqb}
use lib.ListN.{length, get_or, take, drop, length-drop, drop_of_length-le}
use lib.Seq.{take-take, drop-cons, drop-drop, length-take-le}
use Rattle.base.specs.Lists.{begins}
use Rattle.base.proofs.Tests.{refuted}
use Rattle.base.proofs.Members.{drop-take, length-each, get_or-each}
use Rattle.base.proofs.Begins.{begins-length, begins_first}
use Rattle.rules.specs.Names.{folded, folded_text, spanned, name, name_at, rest_of, rest_at}
use Rattle.rules.proofs.Lawful.{by_starts}
use Rattle.table.specs.declared.names.Span.{Span}
use Rattle.table.specs.Parts.{Spans, RestSpans}

-- a part of a part is a part of the text
module _ (text : List ℕ) (a b : ℕ) where
  drop-part : (k : ℕ) → drop k (take (b - a) (drop a text)) ≡ take (b - (a + k)) (drop (a + k) text)
  drop-part k =
      let e : b - a - k ≡ b - (a + k) = omega arith in
      drop-take k (b - a) (drop a text) ∙ rw (drop-drop, e)

  length_part : a ≤ b → b ≤ length text → length (take (b - a) (drop a text)) ≡ b - a
  length_part h k =
      let e : length (drop a text) ≡ length text - a = length-drop a text in
      length-take-le (b - a) (drop a text) (omega arith)

module _ (text starts : List ℕ) (i : ℕ) where
  pub nowhere : spanned text starts i ≡ false → Spans text starts i (record { from = 0; past = 0 })
  unfolding name name_at
  nowhere h = record { forward = omega arith; inside = omega arith; holds = rw h; begins = rw h; fits = omega arith }

  pub found : i + 1 < length starts → get_or starts i 0 ≤ get_or starts (i + 1) 0 → get_or starts (i + 1) 0 ≤ length text → get_or starts (i + 1) 0 < 4294967296
      → Spans text starts i (record { from = get_or starts i 0; past = get_or starts (i + 1) 0 })
  unfolding name name_at
  found h f o k =
      let s = by_starts text starts i h f o in
      record { forward = f; inside = o; holds = rw s; begins = rw s; fits = k }

-- a loop that holds a typed text against a name no shorter: what is left of both decides
pub record Matching (typed name : List ℕ) (i : ℕ) : Type 0 where
  pub rest : begins (folded_text typed) name ≡ begins (drop i (folded_text typed)) (drop i name)

module _ (typed name : List ℕ) where
  pub match_begins : Matching typed name 0
  match_begins = record { rest = refl }

  pub match_ends : (i : ℕ) → length typed ≤ i → Matching typed name i → true ≡ begins (folded_text typed) name
  match_ends i h m =
      let past : length (folded_text typed) ≤ i = omega (arith, length-each folded typed) in
      sym (m.rest ∙ rw (drop_of_length-le (folded_text typed) past))

  -- one letter
  module _ (i : ℕ) (more : i < length typed) (long : length typed ≤ length name) (m : Matching typed name i) where
    match_letter : begins (folded_text typed) name ≡ eqb (folded (get_or typed i 0)) (get_or name i 0) && begins (drop (i + 1) (folded_text typed)) (drop (i + 1) name)
    match_letter =
        m.rest ∙ rw (drop-cons (folded_text typed) i 0 (omega (arith, length-each folded typed)), drop-cons name i 0 (omega arith), get_or-each folded typed i 0 0 more, add-one)

    pub match_on : eqb (folded (get_or typed i 0)) (get_or name i 0) ≡ true → Matching typed name (i + 1)
    match_on e = record { rest = match_letter ∙ rw e }

    pub match_off : eqb (folded (get_or typed i 0)) (get_or name i 0) ≡ false → false ≡ begins (folded_text typed) name
    match_off e = sym (match_letter ∙ rw e)

-- the same by twos: the letters left are so many pairs
pub record Pairing (typed name : List ℕ) (i : ℕ) : Type 0 where
  pub matched : Matching typed name i
  pub pairs : ℕ
  pub whole : length typed ≡ i + pairs + pairs

module _ (typed name : List ℕ) where
  pub pair_begins : (i k : ℕ) → k ≡ i → i ≤ length typed → (length typed - i) % 2 ≡ 0 → Matching typed name i → Pairing typed name k
  pair_begins i k e h even m = record { matched = rw e m; pairs = (length typed - i) / 2; whole = omega arith }

  pub pair_on : (i : ℕ) → i < length typed → Matching typed name (i + 1 + 1) → Pairing typed name i → Pairing typed name (i + 2)
  pair_on i h m p =
      let e : i + 1 + 1 ≡ i + 2 = omega arith in
      record { matched = rw e at m; pairs = p.pairs - 1; whole = omega (arith, p.whole) }

-- the rest of a name, by the span that holds the name
module _ (text starts : List ℕ) (i : ℕ) (s : Span) (w : Spans text starts i s) (typed : List ℕ) where
  abbrev nothing : Span
  nothing = record { from = 0; past = 0 }

  unlike : begins (folded_text typed) (name text starts i) ≡ false → RestSpans text starts i typed nothing
  unfolding rest_of rest_at
  unlike e = record { forward = omega arith; inside = omega arith; holds = rw e; begins = rw e; fits = omega arith }

  pub too_short : s.past < s.from + length typed → RestSpans text starts i typed nothing
  too_short h =
      let l = length_part text s.from s.past w.forward w.inside in
      unlike (refuted _ (λ b. omega (arith, begins-length (folded_text typed) _ b, length-each folded typed, ap length w.holds, w.forward)))

  module _ (long : s.from + length typed ≤ s.past) where
    -- the letters that stand where the typed ones would
    abbrev letters : List ℕ
    letters = take (s.from + length typed - s.from) (drop s.from text)

    told : begins (folded_text typed) letters ≡ begins (folded_text typed) (name text starts i)
    told =
        let e : s.from + length typed - s.from ≡ length (folded_text typed) = omega (arith, length-each folded typed) in
        let t = take-take (length (folded_text typed)) (s.past - s.from) (drop s.from text) (omega (arith, length-each folded typed)) in
        ap (λ k. begins (folded_text typed) (take k (drop s.from text))) e ∙ ap (begins (folded_text typed)) (sym t ∙ ap (take (length (folded_text typed))) w.holds) ∙ begins_first (folded_text typed) (name text starts i)

    pub rest : begins (folded_text typed) letters ≡ true → RestSpans text starts i typed (record { from = s.from + length typed; past = s.past })
    unfolding rest_of rest_at
    rest h =
        let e = sym told ∙ h in
        record { forward = long; inside = w.inside; holds = sym (drop-part text s.from s.past (length typed)) ∙ rw (w.holds, e); begins = rw e (omega (arith, w.begins)); fits = w.fits }

    pub no_rest : begins (folded_text typed) letters ≡ false → RestSpans text starts i typed nothing
    no_rest h = unlike (sym told ∙ h)
