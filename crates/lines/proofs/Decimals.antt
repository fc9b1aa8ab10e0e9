-- Numbers in decimal are read back: `decimal_in` and `signed_in` accept exactly what `decimal_of` and `signed_of` write, in their ranges.
-- A number's digits grow at the end, as reading goes. Assumes nothing.
use mathlib.Core.Path.{◌≡◌, refl, sym, ap, ◌∙◌}
use mathlib.Core.Logic.{inl, inr, ⊎_elim}
use mathlib.Core.Bool.{true, false, true≢false}
use mathlib.Core.List.{List, [], ◌∷◌, ◌++◌, append_assoc, append-nil}
use Rattle.std.specs.Prelude.{Option, Some, None}
use Rattle.std.proofs.lemmas.Option.{none-some}
use Prim.Native.Nat.{ℕ, zero, suc, ◌+◌, ◌-◌, ◌*◌, ◌/◌, ◌%◌, ◌≤◌, ◌<◌}
use native.Mathlib.Omega.{arith}
use lib.IntN.{ℤ, pos, negsuc}
use lib.Dec.{eqb, ltb}
use lib.ListN.{get_or}
use borrow.Table.Steps.{cases}
use borrow.Author.Tests.{lt-ltb, le-ltb, le-leb, leb-true, ne_eqb, eqb-false, not-true}
use Rattle.base.specs.Lists.{begins}
use Rattle.base.proofs.Begins.{begins_cases}
use Rattle.base.proofs.Members.{in_either}
use Rattle.base.proofs.Tests.{tested, le_or_lt, every-at, every_of}
use Rattle.lines.specs.Writing.{ascii, digits_of, decimal_of, signed_of, Signed32, OneLine}
use Rattle.lines.specs.Reads.{grown, digit_fits, grown_by, well_led, decimal_in, negated, positive, signed_in}
use Rattle.lines.specs.Back.{ValueBack}

-- room enough is as good as more
enough : (r r' n : ℕ) → n < r → n < r' → digits_of (ltb n 10) r n ≡ digits_of (ltb n 10) r' n
unfolding digits_of
enough zero r' n h k = absurd (omega arith)
enough (suc r) zero n h k = absurd (omega arith)
enough (suc r) (suc r') n h k =
    ⊎_elim
    (λ (q : 10 ≤ n). rw (le-ltb n 10 q, enough r r' (n / 10) (omega arith) (omega arith)))
    (λ (q : n < 10). rw (lt-ltb n 10 q))
    (le_or_lt 10 n)

-- one digit
pub small : (n : ℕ) → n < 10 → decimal_of n ≡ (48 + n) ∷ []
unfolding decimal_of digits_of
small n h = rw (lt-ltb n 10 h)

-- one digit more
pub longer : (a d : ℕ) → 0 < a → d < 10 → decimal_of (a * 10 + d) ≡ decimal_of a ++ ((48 + d) ∷ [])
unfolding decimal_of digits_of
longer a d h k =
    let e : (a * 10 + d) / 10 ≡ a = omega arith in
    let f : (a * 10 + d) % 10 ≡ d = omega arith in
    rw (le-ltb (a * 10 + d) 10 (omega arith), e, f, enough (a * 10 + d) (suc a) a (omega arith) (omega arith))

-- what holds of one digit, and with a number of that number with one digit more, holds of every number
pub by_digits : (P : ℕ → Type 0) → ((n : ℕ) → n < 10 → P n) → ((a d : ℕ) → 0 < a → d < 10 → P a → P (a * 10 + d)) → (n : ℕ) → P n
by_digits P one more n = within (suc n) n (omega arith)
  where
    within : (most m : ℕ) → m < most → P m
    within zero m h = absurd (omega arith)
    within (suc most) m h =
        let e : m / 10 * 10 + m % 10 ≡ m = omega arith in
        ⊎_elim
        (λ (q : 10 ≤ m). rw e at (more (m / 10) (m % 10) (omega arith) (omega arith) (within most (m / 10) (omega arith))))
        (one m)
        (le_or_lt 10 m)

-- a byte that goes on with a number is a digit, and the number stays in its range
pub record Fits (most value b : ℕ) : Type 0 where
  pub low : 48 ≤ b
  pub high : b ≤ 57
  pub few : grown value b ≤ most

pub fits : (most value b : ℕ) → digit_fits most value b ≡ true → Fits most value b
unfolding digit_fits
fits most value b e =
    record { low = leb-true _ _ (every-at _ 0 e); high = leb-true _ _ (every-at _ 1 e); few = leb-true _ _ (every-at _ 2 e) }

pub fitting : (most value b : ℕ) → Fits most value b → digit_fits most value b ≡ true
unfolding digit_fits
fitting most value b f = every_of _ (le-leb 48 b f.low, (le-leb b 57 f.high, (le-leb (grown value b) most f.few, tt)))

digit : (most value d : ℕ) → d < 10 → value * 10 + d ≤ most → digit_fits most value (48 + d) ≡ true
digit most value d h k = fitting most value (48 + d) (record { low = omega arith; high = omega arith; few = omega arith })

grown_more : (most value a b : ℕ) (l : List ℕ) → grown_by most value l ≡ Some a → digit_fits most a b ≡ true → grown_by most value (l ++ (b ∷ [])) ≡ Some (grown a b)
unfolding grown_by
grown_more most value a b [] e f = let s : value ≡ a = cc in rw (s, f)
grown_more most value a b (c ∷ l) e f = let s = tested (digit_fits most value c) (none-some a) e in rw s.0 (grown_more most (grown value c) a b l s.1 f)

-- the digits of a number in range are gathered to it
grown_back : (most n : ℕ) → n ≤ most → grown_by most 0 (decimal_of n) ≡ Some n
unfolding grown_by
grown_back most =
    by_digits (λ n. n ≤ most → grown_by most 0 (decimal_of n) ≡ Some n)
    (λ n h k. rw (small n h, digit most 0 n h (omega arith)) (ap Some (omega arith)))
    (λ a d h k below l. rw (longer a d h k) (grown_more most 0 a (48 + d) (decimal_of a) (below (omega arith)) (digit most a d k l) ∙ ap Some (omega arith)))

-- and what is gathered on from a number goes on its digits
grown-on : (most a n : ℕ) (l : List ℕ) → 0 < a → a ≤ most → grown_by most a l ≡ Some n → (n ≤ most) × (decimal_of a ++ l ≡ decimal_of n)
unfolding grown_by
grown-on most a n [] h k e = let s : a ≡ n = cc in (rw s at k, rw s (append-nil (decimal_of n)))
grown-on most a n (b ∷ l) h k e =
    let t = tested _ (none-some n) e in
    let f = fits most a b t.0 in
    let r = grown-on most (grown a b) n l (omega arith) f.few t.1 in
    let s : 48 + (b - 48) ≡ b = omega (arith, f.low) in
    (r.0, rw s at (sym (append_assoc (decimal_of a) ((48 + (b - 48)) ∷ []) l) ∙ ap (λ m. m ++ l) (sym (longer a (b - 48) h (omega (arith, f.high)))) ∙ r.1))

-- the first byte is there, and is no 0
abbrev Led : List ℕ → Type 0
Led l = eqb (get_or l 0 48) 48 ≡ false

led_append : (l m : List ℕ) → Led l → Led (l ++ m)
led_append [] m e = absurd (true≢false e)
led_append (b ∷ l) m e = e

led_well : (l : List ℕ) → Led l → well_led l ≡ true
unfolding well_led
led_well [] e = absurd (true≢false e)
led_well (b ∷ []) e = refl
led_well (b ∷ c ∷ l) e = rw e

-- a number's first digit is 0 only if the number is
decimal_led : (n : ℕ) → 0 < n → Led (decimal_of n)
decimal_led =
    by_digits (λ n. 0 < n → Led (decimal_of n))
    (λ n h k. rw (small n h) (ne_eqb (48 + n) 48 (λ e. omega arith)))
    (λ a d h k e l. rw (longer a d h k) (led_append (decimal_of a) ((48 + d) ∷ []) (e h)))

decimal_well : (n : ℕ) → well_led (decimal_of n) ≡ true
unfolding well_led
decimal_well zero = rw (small 0 (omega arith))
decimal_well (suc n) = led_well (decimal_of (suc n)) (decimal_led (suc n) (omega arith))

-- no line feed stands among digits
pub decimal_line : (n : ℕ) → OneLine (decimal_of n)
decimal_line =
    by_digits (λ n. OneLine (decimal_of n))
    (λ n h. rw (small n h) (no_feed n))
    (λ a d h k l. rw (longer a d h k) (λ i. ⊎_elim l (no_feed d) (in_either 10 (decimal_of a) ((48 + d) ∷ []) i)))
  where
    no_feed : (d : ℕ) → OneLine ((48 + d) ∷ [])
    no_feed d (inl e) = omega arith
    no_feed d (inr i) = elim i [ ]

module _ (most : ℕ) where
  number_back : (n : ℕ) → n ≤ most → decimal_in most (decimal_of n) ≡ Some n
  unfolding decimal_in
  number_back n h = rw (decimal_well n) (grown_back most n h)

  -- past the first digit, which is a number of its own
  first : (n b : ℕ) (l : List ℕ) → well_led (b ∷ l) ≡ true → Fits most 0 b → grown_by most (grown 0 b) l ≡ Some n → (n ≤ most) × (b ∷ l ≡ decimal_of n)
  unfolding well_led grown_by
  first n b [] led f e =
      let s : grown 0 b ≡ n = cc in
      let t : 48 + n ≡ b = omega (arith, f.low, s) in
      (rw s at f.few, sym (rw t at (small n (omega (arith, f.high, s)))))
  first n b (c ∷ l) led f e =
      let more : 0 < grown 0 b = omega (arith, f.low, eqb-false b 48 (not-true _ led)) in
      let r = grown-on most (grown 0 b) n (c ∷ l) more f.few e in
      let t : 48 + grown 0 b ≡ b = omega (arith, f.low) in
      (r.0, rw (small (grown 0 b) (omega (arith, f.high)), t) at r.1)

  -- what is read as a number has a first digit
  begun : (n b : ℕ) (l : List ℕ) → decimal_in most (b ∷ l) ≡ Some n → (well_led (b ∷ l) ≡ true) × Fits most 0 b × (grown_by most (grown 0 b) l ≡ Some n)
  unfolding decimal_in grown_by
  begun n b l e =
      let s = tested _ (none-some n) e in
      let t = tested _ (none-some n) s.1 in
      (s.0, fits most 0 b t.0, t.1)

  number_sound : (n : ℕ) (l : List ℕ) → decimal_in most l ≡ Some n → (n ≤ most) × (l ≡ decimal_of n)
  unfolding decimal_in well_led
  number_sound n [] e = absurd (none-some n e)
  number_sound n (b ∷ l) e = let s = begun n b l e in first n b l s.0 s.1 s.2

  number_plain : (n : ℕ) (l : List ℕ) → decimal_in most l ≡ Some n → begins (ascii "-") l ≡ false
  number_plain n [] e = refl
  number_plain n (b ∷ l) e = let s = begun n b l e in rw (ne_eqb 45 b (λ q. omega (arith, s.1.low)))

  pub decimal_law : ValueBack decimal_of (λ n. n ≤ most) (decimal_in most)
  decimal_law = record { back = number_back; sound = number_sound }

signed_back : (z : ℤ) → Signed32 z → signed_in (signed_of z) ≡ Some z
unfolding signed_in signed_of Signed32
signed_back (pos n) h =
    let e = number_back 2147483647 n (omega arith) in
    rw (number_plain 2147483647 n (decimal_of n) e, e)
signed_back (negsuc n) h = rw (number_back 2147483648 (suc n) (omega arith))

below_zero : (z : ℤ) (l : List ℕ) (o : Option ℕ) → decimal_in 2147483648 l ≡ o → negated o ≡ Some z → Signed32 z × (ascii "-" ++ l ≡ signed_of z)
unfolding signed_of Signed32
below_zero z l None q e = absurd (none-some z e)
below_zero z l (Some zero) q e = absurd (none-some z e)
below_zero z l (Some (suc n)) q e =
    let s = number_sound 2147483648 (suc n) l q in
    let t : z ≡ negsuc n = cc in
    rw t (omega (arith, s.0), ap (λ m. 45 ∷ m) s.1)

from_zero : (z : ℤ) (l : List ℕ) (o : Option ℕ) → decimal_in 2147483647 l ≡ o → positive o ≡ Some z → Signed32 z × (l ≡ signed_of z)
unfolding signed_of Signed32
from_zero z l None q e = absurd (none-some z e)
from_zero z l (Some n) q e =
    let s = number_sound 2147483647 n l q in
    let t : z ≡ pos n = cc in
    rw t (omega (arith, s.0), s.1)

signed_sound : (z : ℤ) (l : List ℕ) → signed_in l ≡ Some z → Signed32 z × (l ≡ signed_of z)
unfolding signed_in
signed_sound z [] e = from_zero z [] _ refl e
signed_sound z (b ∷ l) e =
    cases (begins (ascii "-") (b ∷ l))
    (λ q. rw (sym (begins_cases 45 b [] l q).0) (below_zero z l _ refl (rw q at e)))
    (λ q. from_zero z (b ∷ l) _ refl (rw q at e))

pub signed_law : ValueBack signed_of Signed32 signed_in
signed_law = record { back = signed_back; sound = signed_sound }

pub signed_line_lem : (z : ℤ) → OneLine (signed_of z)
unfolding signed_of
signed_line_lem (pos n) i = decimal_line n i
signed_line_lem (negsuc n) (inl e) = omega arith
signed_line_lem (negsuc n) (inr i) = decimal_line (suc n) i
