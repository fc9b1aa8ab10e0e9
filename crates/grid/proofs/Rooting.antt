-- The loop that finds a root bit by bit: what is found is not past the root, and less than 2 ^ bits short of it.
-- Assumes nothing.
use Rattle.std.proofs.Common.{◌≡◌, ℕ, suc, ◌+◌, ◌-◌, ◌*◌, ◌%◌, ◌^◌, ◌<◌, ◌≤◌, ap, ◌∙◌, pow-suc, arith, shl_exact}
use Rattle.rules.specs.Worth.{squared, root}
use Rattle.rules.proofs.Roots.{square_most, root_only}

pub record Rooting (n found bits : ℕ) : Type 0 where
  pub few : bits ≤ 17
  pub most : squared found ≤ n
  pub next : n < squared (found + 2 ^ bits)
  pub fits : found + 2 ^ bits ≤ 131072

pub begin : (n : ℕ) → n < 17179869184 → Rooting n 0 17
begin n h = record { few = omega arith; most = omega arith; next = h; fits = omega arith }

-- what is found with the next bit, as the code shifts it
abbrev raised : ℕ → ℕ → ℕ
raised found bits = found + 1 * 2 ^ (bits - 1) % 4294967296

module _ (n found bits : ℕ) (w : Rooting n found bits) (some : 0 < bits) where
  bit_is : 1 * 2 ^ (bits - 1) % 4294967296 ≡ 2 ^ (bits - 1)
  bit_is = shl_exact {a = 1} 1 (bits - 1) 32 (omega arith) (omega (arith, w.few)) ∙ omega arith

  -- twice the bit is what was left
  twice : raised found bits + 2 ^ (bits - 1) ≡ found + 2 ^ bits
  twice =
      let one_more : suc (bits - 1) ≡ bits = omega arith in
      omega (arith, bit_is, pow-suc 2 (bits - 1), ap (λ (k : ℕ). 2 ^ k) one_more)

  pub next_fits : raised found bits ≤ 131072
  next_fits = omega (arith, twice, w.fits)

  pub square_fits : squared (raised found bits) ≤ 17179869184
  square_fits = square_most (raised found bits) 131072 next_fits

  pub bit_added : squared (raised found bits) ≤ n → Rooting n (raised found bits) (bits - 1)
  bit_added h = record { few = omega (arith, w.few); most = h; next = rw twice w.next; fits = omega (arith, twice, w.fits) }

  pub bit_left : n < squared (raised found bits) → Rooting n found (bits - 1)
  bit_left h = record { few = omega (arith, w.few); most = w.most; next = rw bit_is at h; fits = omega (arith, next_fits, bit_is) }

pub rooted : (n found bits : ℕ) → Rooting n found bits → bits ≤ 0 → found ≡ root n
rooted n found bits w h =
    let none : bits ≡ 0 = omega arith in
    let last : found + 2 ^ bits ≡ suc found = ap (λ (k : ℕ). found + 2 ^ k) none ∙ omega arith in
    root_only n found (record { most = w.most; next = rw last at w.next })
