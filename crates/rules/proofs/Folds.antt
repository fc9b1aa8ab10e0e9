-- Capitals read as small letters: what folding does to a byte and to a text, and that what the rules say of a text they say of its folded text.
-- Assumes nothing.
use mathlib.Core.Path.{◌≡◌, refl, sym, ap, ap₂, ◌∙◌}
use mathlib.Core.Bool.{true, false}
use mathlib.Core.List.{List, [], ◌∷◌}
use Prim.Native.Nat.{ℕ, ◌+◌, ◌/◌, ◌%◌, ◌≤◌, ◌<◌}
use native.Mathlib.Omega.{arith}
use lib.Dec.{leb}
use borrow.Table.Steps.{cases}
use borrow.Author.Tests.{leb-true, ltb-true, ltb-false, le-leb, lt-leb}
use Rattle.std.specs.Prelude.{nat_lt}
use Rattle.std.specs.Char.{to_ascii_lowercase}
use Rattle.base.specs.Lists.{all}
use Rattle.base.proofs.Tests.{never, refuted, and_parts}
use Rattle.base.proofs.Members.{length-each}
use Rattle.rules.specs.declared.Grid.{Grid}
use Rattle.rules.specs.declared.Rect.{Rect}
use Rattle.rules.specs.declared.Ranking.{Ranking}
use Rattle.rules.specs.Numbers.{AnyTold}
use Rattle.rules.specs.Names.{allowed, capital, folded, folded_text, text_refusal, rest_of, rest_at}
use Rattle.rules.specs.Tables.{Table}
use Rattle.rules.specs.Outcomes.{Outcome}
use Rattle.rules.specs.Indexes.{Index, set_lawful}
use Rattle.rules.specs.Sessions.{type_refusal, letters_typed}
use Rattle.rules.specs.Promises.{RangeKept, AnyKept, RankedKept, RangePromise, AnyPromise, RankedPromise}
use Rattle.rules.proofs.Bytes.{letter, between, text_parts}

-- ---- a byte

module _ (b : ℕ) where
  capital_parts : capital b ≡ true → (65 ≤ b) × (b ≤ 90)
  unfolding capital
  capital_parts e = let t = and_parts (leb 65 b) (leb b 90) e in (leb-true 65 b t.0, leb-true b 90 t.1)

  below_capitals : b < 65 → capital b ≡ false
  unfolding capital
  below_capitals h = rw (lt-leb 65 b h)

  above_capitals : 91 ≤ b → capital b ≡ false
  unfolding capital
  above_capitals h = rw (le-leb 65 b (omega arith), lt-leb b 90 (omega arith))

  fold_capital : capital b ≡ true → folded b ≡ b + 32
  unfolding folded
  fold_capital e = rw e

  pub fold_other : capital b ≡ false → folded b ≡ b
  unfolding folded
  fold_other e = rw e

  -- range by range
  pub read_capital : 65 ≤ b → b < 91 → b + 32 ≡ folded b
  unfolding capital
  read_capital h k = sym (fold_capital (rw (le-leb 65 b h, le-leb b 90 (omega arith))))

  pub read_below : b < 65 → b ≡ folded b
  read_below h = sym (fold_other (below_capitals h))

  pub read_above : 91 ≤ b → b ≡ folded b
  read_above h = sym (fold_other (above_capitals h))

  -- as the library makes a small letter
  pub read_lowercase : to_ascii_lowercase b ≡ folded b
  read_lowercase = cases (nat_lt b 65) (λ e. rw e (read_below (ltb-true b 65 e))) (λ e. cases (nat_lt b 91) (λ d. rw (e, d) (read_capital (ltb-false b 65 e) (ltb-true b 91 d))) (λ d. rw (e, d) (read_above (ltb-false b 91 d))))

  -- or by the bit 32, which no capital has
  pub read_plain : b / 32 % 2 ≡ 1 → b ≡ folded b
  read_plain h = sym (fold_other (refuted (capital b) (λ e. let t = capital_parts e in omega (arith, t.0, t.1))))

-- a small letter comes of each capital, and a byte that is allowed is no capital
module _ (b : ℕ) where
  small : capital b ≡ true → (97 ≤ folded b) × (folded b < 123)
  small e = let h = capital_parts b e in rw (fold_capital b e) (omega (arith, h.0), omega (arith, h.1))

  pub never_capital : capital (folded b) ≡ false
  never_capital = cases (capital b) (λ e. above_capitals (folded b) (omega (arith, (small e).0))) (λ e. ap capital (fold_other b e) ∙ e)

  pub folded_twice : folded (folded b) ≡ folded b
  folded_twice = fold_other (folded b) never_capital

  -- no capital is refused
  pub capital-allowed : capital b ≡ true → allowed (folded b) ≡ true
  capital-allowed e = let h = small e in letter (folded b) h.0 h.1

  -- and an allowed byte is read as itself
  pub allowed_same : allowed b ≡ true → folded b ≡ b
  allowed_same a = cases (capital b) (λ e. let h = capital_parts b e in never (allowed b) a (between b (omega (arith, h.0)) (omega (arith, h.1)))) (fold_other b)

-- ---- a text

pub text_twice : (p : List ℕ) → folded_text (folded_text p) ≡ folded_text p
text_twice [] = refl
text_twice (b ∷ p) = ap₂ (λ (c : ℕ) (q : List ℕ). c ∷ q) (folded_twice b) (text_twice p)

letters_same : (p : List ℕ) → all allowed p ≡ true → folded_text p ≡ p
letters_same [] h = refl
letters_same (b ∷ p) h = let t = and_parts (allowed b) (all allowed p) h in ap₂ (λ (c : ℕ) (q : List ℕ). c ∷ q) (allowed_same b t.0) (letters_same p t.1)

-- letters that are not refused are read as themselves
pub text_same : (p : List ℕ) → text_refusal p ≡ 0 → folded_text p ≡ p
text_same p e = letters_same p (text_parts p e).1

-- ---- a folded text is taken as the text is: all by folding twice

-- the questions promise for a text what they promise for its folded text
pub any_folded : (t : Table) (g : Grid) (x : Index) (p : List ℕ) (r : Rect) (o : AnyTold) → AnyPromise t g x (folded_text p) r o ≡ AnyPromise t g x p r o
any_folded t g x p r o = ap (λ l. AnyKept (set_lawful t g x ≡ true) t g l r o) (text_twice p)

module _ (t : Table) (g : Grid) (x : Index) (p : List ℕ) (rooms : List (List ℕ)) (o : Outcome) where
  pub range_folded : (r : Rect) → RangePromise t g x (folded_text p) r rooms o ≡ RangePromise t g x p r rooms o
  range_folded r = ap (λ l. RangeKept (set_lawful t g x ≡ true) t g l r rooms o) (text_twice p)

  pub ranked_folded : (q : Ranking) → RankedPromise t g x (folded_text p) q rooms o ≡ RankedPromise t g x p q rooms o
  ranked_folded q = ap (λ l. RankedKept (set_lawful t g x ≡ true) t g l q rooms o) (text_twice p)

-- the rest of a name is that after the folded text
module _ (text starts : List ℕ) (i : ℕ) (typed : List ℕ) where
  pub rest-folded : rest_of text starts i (folded_text typed) ≡ rest_of text starts i typed
  unfolding rest_of
  rest-folded = rw (text_twice typed, length-each folded typed)

  pub rest-at-folded : rest_at text starts i (folded_text typed) ≡ rest_at text starts i typed
  unfolding rest_at
  rest-at-folded = rw (text_twice typed, length-each folded typed)

-- and a byte is typed as its small letter
module _ (p : List ℕ) (b : ℕ) where
  pub refusal_folded : type_refusal p (folded b) ≡ type_refusal p b
  unfolding type_refusal
  refusal_folded = rw (folded_twice b)

  pub letters_folded : letters_typed p (folded b) ≡ letters_typed p b
  letters_folded = rw (refusal_folded, folded_twice b)
