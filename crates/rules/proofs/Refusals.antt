-- The first of two refusals that is given.
-- Assumes nothing.
use mathlib.Core.Path.{◌≡◌, refl}
use Prim.Native.Nat.{ℕ, zero, suc}
use native.Mathlib.Omega.{arith}
use Rattle.rules.specs.Numbers.{first_given}

pub first_given_lem : (n m : ℕ) → (n ≡ 0 → ⊥) → first_given n m ≡ n
first_given_lem zero m h = absurd (h refl)
first_given_lem (suc n) m h = refl

pub first_none : (n m : ℕ) → first_given n m ≡ 0 → (n ≡ 0) × (m ≡ 0)
first_none zero m e = (refl, e)
first_none (suc n) m e = absurd (omega arith)
