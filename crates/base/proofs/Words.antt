-- A word of bits: its size, what one more bit adds, what each bit says, the words of tests put together, of parts and of an interval.
-- Assumes nothing.
use mathlib.Core.Path.{◌≡◌, refl, sym, ap, ◌∙◌, subst}
use mathlib.Core.Bool.{Bool, true, false, ◌&&◌, ◌||◌, and-true, and-false}
use mathlib.Core.Logic.{◌⊎◌, inl, inr, ⊎_elim}
use mathlib.Core.List.{[], ◌∷◌}
use Prim.Native.Nat.{ℕ, zero, suc, ◌+◌, ◌-◌, ◌*◌, ◌/◌, ◌%◌, ◌^◌, ◌<◌, ◌≤◌}
use native.Mathlib.Nat.{pow-suc, mod-eq_of_lt, one-mul, add_comm, add_assoc, add-mul, mul_assoc, add-mul-div_right, zero-add, add-zero, add-suc}
use native.Mathlib.Numerals.{add-one}
use native.Mathlib.Omega.{arith}
use lib.Dec.{eqb, leb, ltb}
use lib.Bits.{bit_and, bit_or, and_block, or_block}
use lib.Count.{ones, ones_cat}
use lib.ListN.{length, length-append}
use lib.Pow.{pow-lt, pow_mono, pow_pos, pow-add, high, mod-pow-add}
use borrow.Table.Steps.{cases}
use borrow.Author.Tests.{eq-eqb, ne_eqb, lt-ltb, le-ltb, le-leb, lt-leb}
use Rattle.base.specs.Lists.{from_on, keep}
use Rattle.base.specs.Bits.{bit, word_of, bit_at}
use Rattle.base.proofs.Tests.{le_or_lt}
use Rattle.base.proofs.Members.{keep_append}
use Rattle.base.proofs.Runs.{from_split}

pub parity : (w : ℕ) → (w % 2 ≡ 0) ⊎ (w % 2 ≡ 1)
parity w = ⊎_elim (λ (h : w % 2 ≤ 0). inl (omega arith)) (λ (h : 0 < w % 2). inr (omega arith)) (le_or_lt (w % 2) 0)

bit_most : (b : Bool) (n : ℕ) → bit b * n ≤ n
bit_most true n = omega arith
bit_most false n = omega arith

pub word_less : (test : ℕ → Bool) (base n : ℕ) → word_of test base n < 2 ^ n
unfolding word_of
word_less test base zero = omega arith
word_less test base (suc n) = rw (pow-suc 2 n) (omega (arith, word_less test base n, bit_most (test (base + n)) (2 ^ n)))

-- 1 << i
pub one_shifted : (w i : ℕ) → i < w → 1 * 2 ^ i % 2 ^ w ≡ 2 ^ i
one_shifted w i h = rw (one-mul (2 ^ i)) (mod-eq_of_lt (pow-lt {i = i} {j = w} h))

-- bit i of the word is what the test says of base + i
bit_alone : (b : Bool) → bit b % 2 ≡ bit b
bit_alone true = refl
bit_alone false = refl

drop_even : (x y : ℕ) → (x + y * 2) % 2 ≡ x % 2
drop_even x y = omega arith

bit-under : (b w n i : ℕ) → i < n → (w + b * 2 ^ n) / 2 ^ i % 2 ≡ w / 2 ^ i % 2
bit-under b w n i h =
    let j = n - suc i in
    let e : n ≡ suc j + i = omega arith in
    rw (e, pow-add 2 (suc j) i, ← mul_assoc b (2 ^ suc j) (2 ^ i), add-mul-div_right w (b * 2 ^ suc j) (pow_pos i), pow-suc 2 j, ← mul_assoc b (2 ^ j) 2)
    (drop_even (w / 2 ^ i) (b * 2 ^ j))

bit-says : (test : ℕ → Bool) (base n i : ℕ) → i < n → word_of test base n / 2 ^ i % 2 ≡ bit (test (base + i))
unfolding word_of
bit-says test base zero i h = absurd (omega arith)
bit-says test base (suc n) i h =
    ⊎_elim
    (λ (k : n ≤ i). let e : i ≡ n = omega arith in rw (e, add_comm (word_of test base n), high (bit (test (base + n))) n (word_less test base n)) (bit_alone (test (base + n))))
    (λ (k : i < n). bit-under (bit (test (base + n))) _ n i k ∙ bit-says test base n i k)
    (le_or_lt n i)

-- a bitwise operation that goes block by block, on the words of two tests, gives the word of the tests put together
words_by : (op : ℕ → ℕ → ℕ) (join : Bool → Bool → Bool) → op 0 0 ≡ 0 → ((a b : Bool) → op (bit a) (bit b) ≡ bit (join a b))
    → ((n h k l m : ℕ) → l < 2 ^ n → m < 2 ^ n → op (h * 2 ^ n + l) (k * 2 ^ n + m) ≡ op h k * 2 ^ n + op l m)
    → (f g : ℕ → Bool) (base n : ℕ) → op (word_of f base n) (word_of g base n) ≡ word_of (λ k. join (f k) (g k)) base n
unfolding word_of
words_by op join none bits block f g base zero = none
words_by op join none bits block f g base (suc n) =
    rw (
      add_comm (word_of f base n) (bit (f (base + n)) * 2 ^ n),
      add_comm (word_of g base n) (bit (g (base + n)) * 2 ^ n),
      block n (bit (f (base + n))) (bit (g (base + n))) _ _ (word_less f base n) (word_less g base n),
      words_by op join none bits block f g base n,
      bits (f (base + n)) (g (base + n)),
    )
    (add_comm _ _)

pub words_and : (f g : ℕ → Bool) (base n : ℕ) → bit_and (word_of f base n) (word_of g base n) ≡ word_of (λ k. f k && g k) base n
words_and = words_by bit_and ◌&&◌ refl (λ a b. cases a (λ p. cases b (λ q. rw (p, q)) (λ q. rw (p, q))) (λ p. rw p)) and_block

pub words_or : (f g : ℕ → Bool) (base n : ℕ) → bit_or (word_of f base n) (word_of g base n) ≡ word_of (λ k. f k || g k) base n
words_or =
    words_by bit_or ◌||◌ refl
    (λ a b. cases a (λ p. cases b (λ q. rw (p, q)) (λ q. rw (p, q))) (λ p. cases b (λ q. rw (p, q)) (λ q. rw (p, q))))
    or_block

-- tests that agree have one word
pub word_same : (f g : ℕ → Bool) (a b n : ℕ) → ((k : ℕ) → k < n → f (a + k) ≡ g (b + k)) → word_of f a n ≡ word_of g b n
unfolding word_of
word_same f g a b zero e = refl
word_same f g a b (suc n) e = rw (word_same f g a b n (λ k h. e k (omega arith)), e n (omega arith))

-- no bit, and one bit
pub word_none : (base n : ℕ) → word_of (λ k. false) base n ≡ 0
unfolding word_of
word_none base zero = refl
word_none base (suc n) = rw (word_none base n) (omega arith)

others_clear : (base i n : ℕ) → n ≤ i → word_of (λ k. eqb k (base + i)) base n ≡ 0
others_clear base i n h = word_same _ (λ k. false) base base n (λ k l. ne_eqb (base + k) (base + i) (λ e. omega arith)) ∙ word_none base n

pub word_one : (base i n : ℕ) → i < n → word_of (λ k. eqb k (base + i)) base n ≡ 2 ^ i
unfolding word_of
word_one base i zero h = absurd (omega arith)
word_one base i (suc n) h =
    ⊎_elim
    (λ (k : n ≤ i). let e : i ≡ n = omega arith in rw (others_clear base i n k, e, eq-eqb (base + n) (base + n) refl) (omega arith))
    (λ (k : i < n). rw (word_one base i n k, ne_eqb (base + n) (base + i) (λ e. omega arith)) (omega arith))
    (le_or_lt n i)

bit_is : (b : Bool) → eqb (bit b) 1 ≡ b
bit_is true = refl
bit_is false = refl

-- a bit asks the test that the word was made of
pub bit-asks : (test : ℕ → Bool) (base n i : ℕ) → i < n → bit_at (word_of test base n) i ≡ test (base + i)
bit-asks test base n i h = ap (λ (n : ℕ). eqb n 1) (bit-says test base n i h) ∙ bit_is (test (base + i))

-- a word is the word of its first m bits and that of the n bits above
pub word_split : (test : ℕ → Bool) (base m n : ℕ) → word_of test base (m + n) ≡ word_of test base m + word_of test (base + m) n * 2 ^ m
unfolding word_of
word_split test base m zero = rw (add-zero m) (omega arith)
word_split test base m (suc n) =
    rw (
      add-suc m n,
      word_split test base m n,
      add-mul (word_of test (base + m) n) (bit (test (base + m + n)) * 2 ^ n) (2 ^ m),
      mul_assoc (bit (test (base + m + n))) (2 ^ n) (2 ^ m),
      ← pow-add 2 n m,
      add_comm n m,
      add_assoc base m n,
    )
    (omega arith)

-- one bit more, of the numbers from first on: it is set unless first lies above
interval_bit : (first n : ℕ) → 2 ^ n - 2 ^ first + bit (leb first n) * 2 ^ n ≡ 2 ^ suc n - 2 ^ first
interval_bit first n =
    ⊎_elim
    (λ (h : first ≤ n). rw (le-leb first n h, pow-suc 2 n) (omega (arith, pow_mono {i = first} {j = n} h)))
    (λ (h : n < first). rw (lt-leb first n h) (omega (arith, pow_mono {i = n} {j = suc n} (omega arith), pow_mono {i = suc n} {j = first} h)))
    (le_or_lt first n)

-- the word of the numbers from first on and below past
pub word_between : (first past n : ℕ) → past ≤ n → word_of (λ k. leb first k && ltb k past) 0 n ≡ 2 ^ past - 2 ^ first
unfolding word_of
word_between first past zero h = omega (arith, pow_mono {i = past} {j = first} (omega arith))
word_between first past (suc n) h =
    ⊎_elim
    (λ (k : past ≤ n). rw (word_between first past n k, zero-add n, le-ltb n past k, and-false (leb first n)) (omega arith))
    (λ (k : n < past).
    let e : past ≡ suc n = omega arith in
    let same = word_same (λ k. leb first k && ltb k (suc n)) (λ k. leb first k && ltb k n) 0 0 n (λ k l. rw (zero-add k, lt-ltb k n l, lt-ltb k (suc n) (omega arith))) in
    let P : ℕ → Type 0 = λ p. word_of (λ k. leb first k && ltb k p) 0 (suc n) ≡ 2 ^ p - 2 ^ first in
    subst P (sym e) (rw (same, word_between first n n (omega arith), zero-add n, lt-ltb n (suc n) (omega arith), and-true (leb first n)) (interval_bit first n)))
    (le_or_lt past n)

-- a number is the word of its own bits
half_bit : (x : ℕ) → bit (eqb (x % 2) 1) ≡ x % 2
half_bit x = ⊎_elim (λ (e : x % 2 ≡ 0). rw e) (λ (e : x % 2 ≡ 1). rw e) (parity x)

bits_below : (w n : ℕ) → word_of (bit_at w) 0 n ≡ w % 2 ^ n
unfolding word_of
bits_below w zero = omega arith
bits_below w (suc n) =
    let m : w % 2 ^ (1 + n) ≡ w / 2 ^ n % 2 ^ 1 * 2 ^ n + w % 2 ^ n = mod-pow-add w 1 n in
    let e : 1 + n ≡ suc n = omega arith in
    rw (zero-add n, bits_below w n, half_bit (w / 2 ^ n)) (omega (arith, rw e at m))

pub word_bits : (w n : ℕ) → w < 2 ^ n → word_of (bit_at w) 0 n ≡ w
word_bits w n h = bits_below w n ∙ mod-eq_of_lt h

-- as many bits are 1 as numbers pass the test
pub ones_word : (test : ℕ → Bool) (base n : ℕ) → ones (word_of test base n) ≡ length (keep test (from_on base n))
unfolding word_of ones
ones_word test base zero = refl
ones_word test base (suc n) =
    let k = ap (keep test) (ap (from_on base) (sym (add-one n)) ∙ from_split base n 1) ∙ keep_append test (from_on base n) ((base + n) ∷ []) in
    let one : ones (bit (test (base + n))) ≡ length (keep test ((base + n) ∷ [])) = cases (test (base + n)) (λ q. rw q) (λ q. rw q) in
    ap ones (add_comm (word_of test base n) (bit (test (base + n)) * 2 ^ n))
    ∙ ones_cat n (bit (test (base + n))) (word_of test base n) (word_less test base n)
    ∙ omega (arith, ones_word test base n, ap length k ∙ length-append (keep test (from_on base n)) (keep test ((base + n) ∷ [])))

-- the highest bit of a word that is 1: the test holds there, and of none above it
pub record TopBit (test : ℕ → Bool) (n i : ℕ) : Type 0 where
  pub inside : i < n
  pub set : test i ≡ true
  pub rest : word_of test 0 n - 2 ^ i ≡ word_of test 0 i
  pub above : (k : ℕ) → i < k → k < n → test k ≡ false

word_next : (test : ℕ → Bool) (n : ℕ) → word_of test 0 (suc n) ≡ word_of test 0 n + bit (test n) * 2 ^ n
unfolding word_of
word_next test n = ap (λ (k : ℕ). word_of test 0 n + bit (test k) * 2 ^ n) (zero-add n)

pub top_bit : (test : ℕ → Bool) (n i : ℕ) → 2 ^ i ≤ word_of test 0 n → word_of test 0 n < 2 ^ suc i → TopBit test n i
top_bit test zero i h k = absurd (omega (arith, word_less test 0 0, pow_pos i))
top_bit test (suc n) i h k =
    cases (test n)
    (λ q.
    let w : word_of test 0 (suc n) ≡ word_of test 0 n + 2 ^ n = word_next test n ∙ rw q (omega arith) in
    let low : n ≤ i = ⊎_elim (λ l. l) (λ l. absurd (omega (arith, pow_mono {i = suc i} {j = n} l))) (le_or_lt n i) in
    let high : i ≤ n = ⊎_elim (λ u. u) (λ u. absurd (omega (arith, word_less test 0 (suc n), pow_mono {i = suc n} {j = i} u))) (le_or_lt i n) in
    let same : i ≡ n = omega arith in
    record { inside = omega arith; set = ap test same ∙ q; rest = rw (same, w) (omega arith); above = λ k l u. absurd (omega arith) })
    (λ q.
    let w : word_of test 0 (suc n) ≡ word_of test 0 n = word_next test n ∙ rw q (omega arith) in
    let t = top_bit test n i (omega arith) (omega arith) in
    record {
      inside = omega (arith, t.inside);
      set = t.set;
      rest = rw w t.rest;
      above = λ m l u.
          ⊎_elim
          (λ (v : n ≤ m). let e : m ≡ n = omega arith in ap test e ∙ q)
          (λ (v : m < n). t.above m l v)
          (le_or_lt n m);
    })
