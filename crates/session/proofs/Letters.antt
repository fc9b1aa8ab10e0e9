-- What typing and rubbing out are refused with, and the letters that then stand: of a text, and of any session whose text has all its places.
-- Assumes nothing.
use mathlib.Core.Path.{◌≡◌, refl, sym, ap, ◌∙◌}
use mathlib.Core.Logic.{⊎_elim}
use mathlib.Core.Bool.{true, false}
use mathlib.Core.List.{List, [], ◌∷◌, ◌++◌}
use Prim.Native.Nat.{ℕ, ◌-◌, ◌≤◌, ◌<◌}
use native.Mathlib.Omega.{arith}
use native.Mathlib.Numerals.{add-one}
use lib.Dec.{leb}
use lib.ListN.{length, take, drop, length-append, length-take, take-append-drop}
use lib.Seq.{length-take-le, take-take, take-set-le, take-suc-set}
use borrow.Table.Steps.{cases}
use borrow.Author.Tests.{le-leb, lt-leb}
use Rattle.base.specs.Lists.{all}
use Rattle.base.proofs.Tests.{le_or_lt}
use Rattle.base.proofs.Scans.{all_both, all_left}
use Rattle.rules.specs.declared.Session.{Session}
use Rattle.rules.specs.Names.{allowed, folded, text_refusal}
use Rattle.rules.specs.Indexes.{but_last}
use Rattle.rules.specs.Sessions.{letters_of, type_refusal, letters_typed, rub_refusal}
use Rattle.rules.proofs.Bytes.{text_parts, text_taken}
use Rattle.session.specs.Strokes.{lengthened, shortened}

module _ (p : List ℕ) (b : ℕ) where
  pub type_full : 24 ≤ length p → type_refusal p b ≡ 9
  unfolding type_refusal
  type_full h = rw (le-leb 24 (length p) h)

  pub type_unallowed : length p < 24 → allowed (folded b) ≡ false → type_refusal p b ≡ 8
  unfolding type_refusal
  type_unallowed h k = rw (lt-leb 24 (length p) h, k)

  pub type_taken : length p < 24 → allowed (folded b) ≡ true → type_refusal p b ≡ 0
  unfolding type_refusal
  type_taken h k = rw (lt-leb 24 (length p) h, k)

-- no letters stand but allowed ones, and no more than 24
pub typed_allowed : (p : List ℕ) (b : ℕ) → text_refusal p ≡ 0 → text_refusal (letters_typed p b) ≡ 0
typed_allowed p b e =
    ⊎_elim
    (λ (h : 24 ≤ length p). rw (type_full p b h) e)
    (λ (h : length p < 24).
    cases (allowed (folded b))
    (λ a. rw (type_taken p b h a) (text_taken (p ++ (folded b ∷ [])) (simp length-append (omega arith)) (all_both allowed p (folded b ∷ []) (text_parts p e).1 (rw a))))
    (λ a. rw (type_unallowed p b h a) e))
    (le_or_lt 24 (length p))

pub rubbed_allowed : (p : List ℕ) → text_refusal p ≡ 0 → text_refusal (but_last p) ≡ 0
rubbed_allowed p e =
    let k = text_parts p e in
    text_taken (but_last p) (simp length-take (omega arith))
    (all_left allowed (but_last p) (drop (length p - 1) p) (ap (all allowed) (take-append-drop (length p - 1) p) ∙ k.1))

-- the numbers are the rules' own: 7 is none of them
pub type_not_seven : (p : List ℕ) (b : ℕ) → type_refusal p b ≡ 7 → ⊥
unfolding type_refusal
type_not_seven p b e =
    cases (leb 24 (length p))
    (λ f. omega (arith, rw f at e))
    (λ f. cases (allowed (folded b)) (λ a. omega (arith, rw (f, a) at e)) (λ a. omega (arith, rw (f, a) at e)))

pub rub_not_seven : (p : List ℕ) → rub_refusal p ≡ 7 → ⊥
rub_not_seven [] e = omega arith
rub_not_seven (a ∷ p) e = omega arith

pub rub_none : (p : List ℕ) → length p ≡ 0 → (rub_refusal p ≡ 10) × (but_last p ≡ p)
rub_none [] e = (refl, refl)
rub_none (a ∷ p) e = absurd (omega arith)

pub rub_some : (p : List ℕ) → 0 < length p → rub_refusal p ≡ 0
rub_some [] h = absurd (omega arith)
rub_some (a ∷ p) h = refl

module _ (s : Session) (full : length s.text ≡ 24) where
  pub letters_count : s.len ≤ 24 → length (letters_of s) ≡ s.len
  letters_count h = length-take-le s.len s.text (omega arith)

  pub letters_longer : (b n : ℕ) → s.len < 24 → letters_of (lengthened s b n) ≡ letters_of s ++ (b ∷ [])
  unfolding lengthened
  letters_longer b n h = rw (add-one s.len, take-suc-set s.text s.len b (omega arith))

  pub letters_shorter : s.len ≤ 24 → letters_of (shortened s) ≡ but_last (letters_of s)
  unfolding shortened
  letters_shorter h =
      take-set-le (s.len - 1) s.text (s.len - 1) 0 (omega arith)
      ∙ sym (take-take (s.len - 1) s.len s.text (omega arith))
      ∙ ap (λ (k : ℕ). take (k - 1) (letters_of s)) (sym (letters_count h))
