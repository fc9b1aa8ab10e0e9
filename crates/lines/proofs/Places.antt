-- Readers at a place of the input: what the tests that the code makes there say of the lines that begin there.
-- Assumes nothing.
use mathlib.Core.Path.{◌≡◌, refl, sym, ap, ◌∙◌}
use mathlib.Core.Bool.{true, false}
use mathlib.Core.List.{List, [], ◌∷◌}
use Rattle.std.specs.Prelude.{Option, Some, None, cond, position}
use Rattle.std.specs.List.{position_or_len}
use Rattle.std.specs.Cmp.Lexicographic.{pointwise}
use Rattle.std.proofs.lemmas.List.Recursion.{is_position_or_len}
use Prim.Native.Nat.{ℕ, suc, ◌+◌, ◌-◌, ◌<◌}
use native.Mathlib.Omega.{arith}
use lib.Dec.{eqb, ltb}
use lib.ListN.{length, take, drop, get_or, length-drop}
use lib.Seq.{take_all, drop-drop}
use borrow.Table.Steps.{cases}
use borrow.Author.Tests.{ltb-true, eq-eqb, ne_eqb, eqb-true, eqb-false}
use Rattle.base.specs.Lists.{begins, position_in}
use Rattle.std.proofs.lemmas.Option.{none-some, cond_some}
use Rattle.lines.specs.Reads.{got, onward, to_feed, bytes_line, value_line, grown_by, well_led, decimal_in}
use Rattle.lines.specs.Says.{part, Reached, PartReached}

-- the library's tests of a list's beginning, and of a number in it
eqb_swap : (x y : ℕ) → eqb y x ≡ eqb x y
eqb_swap x y = cases (eqb x y) (λ q. rw q (eq-eqb y x (sym (eqb-true x y q)))) (λ q. rw q (ne_eqb y x (λ e. eqb-false x y q (sym e))))

pub key_test : (key l : List ℕ) → pointwise eqb (take (length key) l) key ≡ begins key l
key_test [] l = refl
key_test (x ∷ key) [] = refl
key_test (x ∷ key) (y ∷ l) = rw (eqb_swap x y, key_test key l)

feed_place : (l : List ℕ) → position_in 10 l ≡ position_or_len (λ b. eqb b 10) l
feed_place = is_position_or_len (position_in 10) (λ b. eqb b 10) refl (λ y l. rw (eqb_swap 10 y) (ap (λ n. cond (eqb 10 y) 0 n) (omega arith)))

no_feed : (l : List ℕ) → None ≡ position (λ b. eqb b 10) l → to_feed l ≡ None
unfolding to_feed
no_feed l e =
    rw (feed_place l)
    (cases (ltb (position_or_len (λ b. eqb b 10) l) (length l)) (λ q. absurd (none-some _ (rw q at e))) (λ q. rw q))

fed : (l : List ℕ) (n : ℕ) → Some n ≡ position (λ b. eqb b 10) l → (to_feed l ≡ got (take n l) (drop (suc n) l)) × (n < length l)
unfolding to_feed
fed l n e =
    let s = cond_some _ _ _ (sym e) in
    rw (feed_place l, s.0, s.1) (refl, ltb-true _ _ (rw s.1 at s.0))

-- a line from `at` on, by the library's test of its key and what is behind it
module _ (l key : List ℕ) (at : ℕ) where
  whole : take (length l - at) (drop at l) ≡ drop at l
  whole = take_all (length l - at) (drop at l) (omega (arith, length-drop at l))

  pub key_missing : pointwise eqb (take (length key) (take (length l - at) (drop at l))) key ≡ false → bytes_line key (drop at l) ≡ None
  unfolding bytes_line
  key_missing e = rw (rw (whole, key_test key (drop at l)) at e)

  module _ (rest : List ℕ) (key-is : pointwise eqb (take (length key) (take (length l - at) (drop at l))) key ≡ true) (is : rest ≡ drop (length key) (take (length l - at) (drop at l))) where
    after_key : bytes_line key (drop at l) ≡ to_feed rest
    unfolding bytes_line
    after_key = rw (rw (whole, key_test key (drop at l)) at key-is, is, whole)

    pub feed_missing : None ≡ position (λ b. eqb b 10) rest → bytes_line key (drop at l) ≡ None
    feed_missing e = after_key ∙ no_feed rest e

    pub line_there : (n : ℕ) → Some n ≡ position (λ b. eqb b 10) rest → PartReached l (at + length key) (bytes_line key (drop at l)) (at + length key) (at + length key + n)
    line_there n e =
        let f = fed rest n e in
        let there : rest ≡ drop (at + length key) l = is ∙ rw whole (drop-drop (length key) at l) in
        let long : length rest ≡ length l - (at + length key) = ap length there ∙ length-drop (at + length key) l in
        let a : at + length key + n - (at + length key) ≡ n = omega arith in
        let b : at + length key + n + 1 ≡ at + length key + suc n = omega arith in
        record {
          begun = refl;
          forward = omega arith;
          reached = record { within = omega (arith, f.1); is = after_key ∙ f.0 ∙ rw (a, b, there, drop-drop (suc n) (at + length key) l) };
        }

-- a number's digits, by how many there are and the first of them
module _ (most : ℕ) where
  pub no_digit : (l : List ℕ) → length l ≡ 0 → decimal_in most l ≡ None
  unfolding decimal_in well_led
  no_digit [] e = refl
  no_digit (b ∷ l) e = absurd (omega arith)

  pub leading_zero : (l : List ℕ) → 1 < length l → get_or l 0 0 ≡ 48 → decimal_in most l ≡ None
  unfolding decimal_in well_led
  leading_zero [] h e = absurd (omega arith)
  leading_zero (b ∷ []) h e = absurd (omega arith)
  leading_zero (b ∷ c ∷ l) h e = rw (eq-eqb b 48 e)

  pub one_digit : (l : List ℕ) → length l ≡ 1 → decimal_in most l ≡ grown_by most 0 l
  unfolding decimal_in well_led
  one_digit [] e = absurd (omega arith)
  one_digit (b ∷ []) e = refl
  one_digit (b ∷ c ∷ l) e = absurd (omega arith)

  pub no_leading_zero : (l : List ℕ) → 1 < length l → (get_or l 0 0 ≡ 48 → ⊥) → decimal_in most l ≡ grown_by most 0 l
  unfolding decimal_in well_led
  no_leading_zero [] h e = absurd (omega arith)
  no_leading_zero (b ∷ []) h e = absurd (omega arith)
  no_leading_zero (b ∷ c ∷ l) h e = rw (ne_eqb b 48 e)

-- a line's value, where the line was got, and where it was not
module _ {A : Type 0} (read : List ℕ → Option A) (key rest : List ℕ) where
  pub value_missing : bytes_line key rest ≡ None → value_line read key rest ≡ None
  unfolding value_line onward
  value_missing e = rw e

  module _ (l : List ℕ) (keyed from past : ℕ) (there : PartReached l keyed (bytes_line key rest) from past) where
    pub value_broken : read (part from past l) ≡ None → value_line read key rest ≡ None
    unfolding value_line onward
    value_broken e = rw (there.reached.is, e)

    pub value_there : (a : A) → read (part from past l) ≡ Some a → Reached l (value_line read key rest) a (past + 1)
    unfolding value_line onward
    value_there a e = record { within = there.reached.within; is = rw (there.reached.is, e) }
