-- Signed metres as the machine holds them: what is read back, lifting by 2 ^ 31, differences and the order of two.
-- Assumes nothing.
use Rattle.std.proofs.Common.{◌≡◌, ℕ, zero, suc, ◌-◌, ◌<◌, ◌≤◌, not, ltb, leb, ℤ, pos, negsuc, ◌+ℤ◌, ◌-ℤ◌, neg_ℤ, refl, ap, ◌∙◌, ⊎_elim, arith, to_z-of_z, w32, w64, SFits, to_z, of_z, ltb-false, ltb-true, le-ltb, lt-ltb, le-leb}
use lib.IntN.{sub_ℕ}
use lib.Signed.{lt_z, le_z}
use borrow.Table.Steps.{cases}
use borrow.Author.Tests.{lt-leb}
use mir.Facts.{sfits_widen}
use Rattle.base.proofs.Tests.{le_or_lt}
use Rattle.rules.specs.Places.{lifted}

-- a number of 32 bits, widened to 64
pub widened : (x : ℤ) → SFits w32 x → SFits w64 (to_z w32 (of_z w32 x))
widened x h = rw (to_z-of_z h) (sfits_widen {w = w32} {w' = w64} tt h)

pub wide : (x : ℤ) → SFits w32 x → to_z w64 (of_z w64 (to_z w32 (of_z w32 x))) ≡ x
wide x h = rw (to_z-of_z h) (to_z-of_z (sfits_widen {w = w32} {w' = w64} tt h))

-- lifting: the sum is not negative, and is below 2 ^ 32
lifts : (x : ℤ) → SFits w32 x → x +ℤ pos 2147483648 ≡ pos (lifted x)
lifts (pos n) h = refl
lifts (negsuc n) h = let g : suc n ≤ 2147483648 = omega (arith, h.sfits) in let e : 2147483648 - suc n ≡ 2147483647 - n = omega arith in rw (le-ltb _ _ g, e)

pub lifted_less : (x : ℤ) → SFits w32 x → lifted x < 4294967296
lifted_less (pos n) h = omega (arith, h.sfits)
lifted_less (negsuc n) h = omega (arith, h.sfits)

pub lifted_fits : (x : ℤ) → SFits w32 x → SFits w64 (pos (lifted x))
lifted_fits x h = record { sfits = omega (arith, lifted_less x h) }

pub raised : (x : ℤ) → SFits w32 x → to_z w64 (of_z w64 (to_z w32 (of_z w32 x))) +ℤ pos 2147483648 ≡ pos (lifted x)
raised x h = rw (wide x h) (lifts x h)

pub raised_back : (x : ℤ) → SFits w32 x → to_z w64 (of_z w64 (to_z w64 (of_z w64 (to_z w32 (of_z w32 x))) +ℤ pos 2147483648)) ≡ pos (lifted x)
raised_back x h = rw (raised x h) (to_z-of_z (lifted_fits x h))

-- differences of natural numbers
pub sub_up : (a b : ℕ) → b ≤ a → sub_ℕ a b ≡ pos (a - b)
sub_up a b h = rw (le-ltb a b h)

pub sub_down : (a b : ℕ) → a < b → sub_ℕ a b ≡ negsuc (b - suc a)
sub_down a b h = rw (lt-ltb a b h)

-- a signed difference by the lifted numbers: x is not below o
pub ahead : (x o : ℤ) → SFits w32 x → SFits w32 o → lifted o ≤ lifted x → x -ℤ o ≡ pos (lifted x - lifted o)
ahead (pos a) (pos zero) hx ho h = ap pos (omega arith)
ahead (pos a) (pos (suc b)) hx ho h = sub_up a (suc b) (omega arith) ∙ ap pos (omega arith)
ahead (pos a) (negsuc b) hx ho h = ap pos (omega (arith, ho.sfits))
ahead (negsuc a) (pos zero) hx ho h = absurd (omega (arith, hx.sfits))
ahead (negsuc a) (pos (suc b)) hx ho h = absurd (omega (arith, hx.sfits))
ahead (negsuc a) (negsuc b) hx ho h = sub_up (suc b) (suc a) (omega (arith, hx.sfits)) ∙ ap pos (omega (arith, hx.sfits, ho.sfits))

-- and x is below o
pub behind : (x o : ℤ) → SFits w32 x → SFits w32 o → lifted x < lifted o → x -ℤ o ≡ negsuc (lifted o - suc (lifted x))
behind (pos a) (pos zero) hx ho h = absurd (omega arith)
behind (pos a) (pos (suc b)) hx ho h = sub_down a (suc b) (omega arith) ∙ ap negsuc (omega arith)
behind (pos a) (negsuc b) hx ho h = absurd (omega (arith, ho.sfits))
behind (negsuc a) (pos zero) hx ho h = sub_down 0 (suc a) (omega arith) ∙ ap negsuc (omega (arith, hx.sfits))
behind (negsuc a) (pos (suc b)) hx ho h = ap negsuc (omega (arith, hx.sfits))
behind (negsuc a) (negsuc b) hx ho h = sub_down (suc b) (suc a) (omega (arith, hx.sfits, ho.sfits)) ∙ ap negsuc (omega (arith, hx.sfits, ho.sfits))

pub difference_fits : (x o : ℤ) → SFits w32 x → SFits w32 o → SFits w64 (x -ℤ o)
difference_fits x o hx ho =
    ⊎_elim
    (λ (h : lifted o ≤ lifted x). rw (ahead x o hx ho h) (record { sfits = omega (arith, lifted_less x hx) }))
    (λ (h : lifted x < lifted o). rw (behind x o hx ho h) (record { sfits = omega (arith, lifted_less o ho) }))
    (le_or_lt (lifted o) (lifted x))

-- one up from a negative number
pub one_up : (n : ℕ) → negsuc n +ℤ pos 1 ≡ neg_ℤ (pos n)
one_up zero = refl
one_up (suc n) = sub_down 1 (suc (suc n)) (omega arith) ∙ ap negsuc (omega arith)

-- one signed test says the opposite of the other
le_not_lt : (a b : ℕ) → leb b a ≡ not (ltb a b)
le_not_lt a b = cases (ltb a b) (λ q. rw (q, lt-leb b a (ltb-true a b q))) (λ q. rw (q, le-leb b a (ltb-false a b q)))

pub turned : (a b : ℤ) → le_z b a ≡ not (lt_z a b)
turned (pos a) (pos b) = le_not_lt a b
turned (pos a) (negsuc b) = refl
turned (negsuc a) (pos b) = refl
turned (negsuc a) (negsuc b) = le_not_lt b a
