-- The fewest digits that hold a number are its decimal; how many those are at most.
-- Assumes nothing.
use mathlib.Core.Path.{◌≡◌, sym, ◌∙◌}
use mathlib.Core.List.{List, [], ◌∷◌}
use Prim.Native.Nat.{ℕ, zero, suc, ◌+◌, ◌-◌, ◌*◌, ◌/◌, ◌%◌, ◌^◌, ◌≤◌, ◌<◌}
use native.Mathlib.Nat.{pow-suc}
use native.Mathlib.Omega.{arith}
use lib.ListN.{length, length-append}
use borrow.Author.Tests.{lt-ltb}
use Rattle.io.specs.Digits.{last_digits, IsDigitCount}
use Rattle.lines.specs.Writing.{decimal_of, line}
use Rattle.lines.specs.Puts.{Puts}
use Rattle.lines.proofs.Decimals.{small, longer, by_digits}
use Rattle.lines.proofs.Appending.{line-long, past-line}

some_power : (k : ℕ) → 0 < 10 ^ k
some_power zero = omega arith
some_power (suc k) = omega (arith, some_power k, pow-suc 10 k)

pub decimal_digits : (k n : ℕ) → IsDigitCount 10 1 n k → last_digits 10 k n ≡ decimal_of n
decimal_digits zero n f = absurd (omega (arith, f.0))
decimal_digits (suc zero) n f =
    let h : n < 10 = omega (arith, f.1, pow-suc 10 0) in
    let e : n % 10 ≡ n = omega arith in
    rw (e, lt-ltb n 10 h) (sym (small n h))
decimal_digits (suc (suc k)) n f =
    let less : (m : ℕ) → suc m - 1 ≡ m = λ m. omega arith in
    let high : 10 ^ suc k ≤ n = rw (less (suc k)) at (f.2 (omega arith)) in
    let a = pow-suc 10 k in
    let some = some_power k in
    let below = decimal_digits (suc k) (n / 10) (omega arith, omega (arith, f.1, pow-suc 10 (suc k)), λ h. rw (less k) (omega arith)) in
    let e : n / 10 * 10 + n % 10 ≡ n = omega arith in
    rw (below, lt-ltb (n % 10) 10 (omega arith)) (sym (longer (n / 10) (n % 10) (omega arith) (omega arith)) ∙ rw e)

-- a number below a power of ten has no more digits than that power says
short : (n k : ℕ) → n < 10 ^ suc k → length (decimal_of n) ≤ suc k
short = by_digits (λ n. (k : ℕ) → n < 10 ^ suc k → length (decimal_of n) ≤ suc k) (λ n h k l. rw (small n h) (omega arith)) more
  where
    more : (a d : ℕ) → 0 < a → d < 10 → ((k : ℕ) → a < 10 ^ suc k → length (decimal_of a) ≤ suc k) → (k : ℕ) → a * 10 + d < 10 ^ suc k
        → length (decimal_of (a * 10 + d)) ≤ suc k
    more a d h s below zero l = absurd (omega (arith, pow-suc 10 0))
    more a d h s below (suc k) l =
        rw (longer a d h s) (omega (arith, below k (omega (arith, pow-suc 10 (suc k))), length-append (decimal_of a) ((48 + d) ∷ [])))

-- a number of 64 bits has at most 20
pub decimal_short : (n : ℕ) → n < 18446744073709551616 → length (decimal_of n) ≤ 20
decimal_short n h = short n 19 (omega arith)

-- so a line with one has room, and the next one goes where the key's length says
pub number_room : (key : List ℕ) (at n long : ℕ) → n < 18446744073709551616 → at + (length key + 21) ≤ long → at + length (line key (decimal_of n)) ≤ long
number_room key at n long f h = omega (arith, line-long key (decimal_of n), decimal_short n f)

pub past_number : {out after : List ℕ} {at r : ℕ} (key : List ℕ) (n : ℕ) → Puts (line key (decimal_of n)) out at after r → n < 18446744073709551616 → r ≤ at + (length key + 21)
past_number key n p f = omega (arith, past-line key (decimal_of n) p, decimal_short n f)
