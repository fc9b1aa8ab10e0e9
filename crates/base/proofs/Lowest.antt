-- The set bits of a word, taken lowest first: the lowest one, the word without it, and how many there are.
-- Each law goes by the lowest digit and the word's half. Assumes nothing.
use mathlib.Core.Path.{◌≡◌, ap, ◌∙◌, sym}
use mathlib.Core.Logic.{⊎_elim}
use mathlib.Core.List.{List, [], ◌∷◌}
use Prim.Native.Nat.{ℕ, zero, suc, ◌-◌, ◌*◌, ◌/◌, ◌%◌, ◌^◌, ◌<◌}
use native.Mathlib.Nat.{pow-suc, mul_comm, zero-div, div-one, div-div-eq-div-mul}
use native.Mathlib.Omega.{arith}
use lib.Bits.{bit_and, and_step, and_self}
use lib.Count.{ones, ones_step, count_trailing_zeros}
use lib.ListN.{length}
use Rattle.base.specs.Lists.{from_on, up_to, keep, each}
use Rattle.base.specs.Bits.{bit_at}
use Rattle.base.proofs.Words.{parity}
use Rattle.base.proofs.Members.{keep-each, keep_none, keep_same, length-each}
use Rattle.base.proofs.Runs.{from_shift}

-- the set bits among a word's first k
abbrev pub set_bits : ℕ → ℕ → List ℕ
set_bits k w = keep (bit_at w) (up_to k)

-- those above the lowest are those of the half, each one place higher
above : ℕ → ℕ → List ℕ
above k w = each suc (set_bits k (w / 2))

above_is : (k w : ℕ) → keep (bit_at w) (from_on 1 k) ≡ above k w
unfolding above
above_is k w =
    ap (keep (bit_at w)) (from_shift 0 k)
    ∙ keep-each (bit_at w) suc (up_to k)
    ∙ ap (each suc) (keep_same (λ i. bit_at w (suc i)) (bit_at (w / 2)) (up_to k) (λ i h. rw (pow-suc 2 i, mul_comm (2 ^ i) 2, ← div-div-eq-div-mul w 2 (2 ^ i))))

odd : (k w : ℕ) → w % 2 ≡ 1 → set_bits (suc k) w ≡ 0 ∷ above k w
odd k w e = rw (div-one w, e, above_is k w)

even : (k w : ℕ) → w % 2 ≡ 0 → set_bits (suc k) w ≡ above k w
even k w e = rw (div-one w, e, above_is k w)

-- no set bit in 0
pub bits_none : (k : ℕ) → set_bits k 0 ≡ []
bits_none k = keep_none (bit_at 0) (up_to k) (λ i h. rw (zero-div (2 ^ i)))

-- a word that is not 0: its lowest set bit, then those of the word without it
pub bits_lowest : (k w : ℕ) → 0 < w → w < 2 ^ k → set_bits k w ≡ count_trailing_zeros k w ∷ set_bits k (bit_and w (w - 1))
unfolding count_trailing_zeros above
bits_lowest zero w h u = absurd (omega arith)
bits_lowest (suc k) w h u =
    ⊎_elim
    (λ (e : w % 2 ≡ 0).
    let half : (w - 1) / 2 ≡ w / 2 - 1 = omega arith in
    let last : (w - 1) % 2 ≡ 1 = omega arith in
    let v = bit_and (w / 2) (w / 2 - 1) in
    let r : bit_and w (w - 1) ≡ v * 2 = and_step w (w - 1) ∙ rw (half, last, e) (omega arith) in
    let half' : v * 2 / 2 ≡ v = omega arith in
    let tail : set_bits (suc k) (bit_and w (w - 1)) ≡ each suc (set_bits k v) = ap (set_bits (suc k)) r ∙ even k (v * 2) (omega arith) ∙ ap (λ x. each suc (set_bits k x)) half' in
    even k w e ∙ ap (each suc) (bits_lowest k (w / 2) (omega arith) (omega (arith, rw (pow-suc 2 k) at u))) ∙ rw e (ap (λ t. suc (count_trailing_zeros k (w / 2)) ∷ t) (sym tail)))
    (λ (e : w % 2 ≡ 1).
    let half : (w - 1) / 2 ≡ w / 2 = omega arith in
    let last : (w - 1) % 2 ≡ 0 = omega arith in
    let r : bit_and w (w - 1) ≡ w / 2 * 2 = and_step w (w - 1) ∙ rw (half, last, e, and_self (w / 2)) (omega arith) in
    let half' : w / 2 * 2 / 2 ≡ w / 2 = omega arith in
    let tail : set_bits (suc k) (bit_and w (w - 1)) ≡ above k w = ap (set_bits (suc k)) r ∙ even k (w / 2 * 2) (omega arith) ∙ ap (λ x. each suc (set_bits k x)) half' in
    odd k w e ∙ rw e (ap (λ t. 0 ∷ t) (sym tail)))
    (parity w)

-- a word has as many ones as set bits
pub bits_count : (k w : ℕ) → w < 2 ^ k → length (set_bits k w) ≡ ones w
unfolding ones above
bits_count zero w u = let e : w ≡ 0 = omega arith in rw e
bits_count (suc k) w u =
    let half = length-each suc (set_bits k (w / 2)) ∙ bits_count k (w / 2) (omega (arith, rw (pow-suc 2 k) at u)) in
    ⊎_elim (λ e. omega (arith, ap length (even k w e), ones_step w)) (λ e. omega (arith, ap length (odd k w e), ones_step w)) (parity w)
