-- For the reader: `floor_div` rounds down, the greatest whole number of sides that is not above the difference;
-- lifting keeps the order of metres; and a place's column is the floor that an edge's column is. Assumes nothing.
use Rattle.std.proofs.Common.{◌≡◌, ℕ, zero, suc, ◌+◌, ◌-◌, ◌*◌, ◌/◌, ◌<◌, ◌≤◌, true, leb, ℤ, pos, negsuc, ◌+ℤ◌, ◌*ℤ◌, neg_ℤ, ◌≤ℤ◌, ◌<ℤ◌, sym, refl, ap, ◌∙◌, ⊎_elim, suc-mul, add-mul, zero-mul, div-mul-le_self, arith, le→leb, lt→ltb, w32, SFits, le-leb, leb-false, leb-true}
use native.Mathlib.Nat.{lt-div-mul-add}
use lib.IntN.{+ℤ_idr}
use lib.Signed.{le_z}
use borrow.Table.Steps.{cases}
use borrow.Author.Tests.{lt-leb}
use Rattle.base.proofs.Tests.{le_or_lt}
use Rattle.rules.specs.Places.{lifted, floor_div, edge_strip, within, strip}
use Rattle.grid.proofs.Signed.{sub_up, sub_down, one_up, ahead}
use Rattle.rules.proofs.Places.{from_edge}

neg_below : (m n : ℕ) → n < m → neg_ℤ (pos m) ≤ℤ negsuc n
neg_below zero n h = absurd (omega arith)
neg_below (suc m) n h = record { le = le→leb n m (omega arith) }

neg_above : (m n : ℕ) → m ≤ n → negsuc n <ℤ neg_ℤ (pos m)
neg_above zero n h = record { lt = tt }
neg_above (suc m) n h = record { lt = lt→ltb m n (omega arith) }

neg_times : (k c : ℕ) → neg_ℤ (pos k) *ℤ pos c ≡ neg_ℤ (pos (k * c))
neg_times zero c = rw (zero-mul c)
neg_times (suc k) c = refl

-- the floor's sides are not above x
pub floor_below : (x : ℤ) (c : ℕ) → 0 < c → (floor_div x c *ℤ pos c) ≤ℤ x
floor_below (pos n) c h = record { le = le→leb _ _ (div-mul-le_self n c) }
floor_below (negsuc n) c h = neg_below (suc (n / c) * c) n (omega (arith, suc-mul (n / c) c, lt-div-mul-add {a = n} {b = c} h))

-- and one side more is above it
pub floor_greatest : (x : ℤ) (c : ℕ) → 0 < c → x <ℤ ((floor_div x c +ℤ pos 1) *ℤ pos c)
floor_greatest (pos n) c h = record { lt = lt→ltb n ((n / c + 1) * c) (omega (arith, add-mul (n / c) 1 c, lt-div-mul-add {a = n} {b = c} h)) }
floor_greatest (negsuc n) c h = rw (one_up (n / c), neg_times (n / c) c) (neg_above (n / c * c) n (div-mul-le_self n c))

-- two tests that say the same
pub same_test : (a b c d : ℕ) → (a ≤ b → c ≤ d) → (b < a → d < c) → leb a b ≡ leb c d
same_test a b c d up down =
    cases (leb a b) (λ q. q ∙ sym (le-leb c d (up (leb-true a b q)))) (λ q. q ∙ sym (lt-leb c d (down (leb-false a b q))))

-- so many metres on from a are not past b, as the lifted numbers tell
pub reach_order : (a : ℤ) (n : ℕ) (b : ℤ) → SFits w32 a → SFits w32 b → le_z (a +ℤ pos n) b ≡ leb (lifted a + n) (lifted b)
reach_order (pos a) n (pos b) fa fb = same_test (a + n) b (a + 2147483648 + n) (b + 2147483648) (λ h. omega arith) (λ h. omega arith)
reach_order (pos a) n (negsuc b) fa fb = sym (lt-leb (a + 2147483648 + n) (2147483647 - b) (omega arith))
reach_order (negsuc a) n b fa fb =
    ⊎_elim
    (λ (h : suc a ≤ n). rw (sub_up n (suc a) h) (past b fb h))
    (λ (h : n < suc a). rw (sub_down n (suc a) h) (short b fb h))
    (le_or_lt (suc a) n)
  where
    past : (b : ℤ) → SFits w32 b → suc a ≤ n → le_z (pos (n - suc a)) b ≡ leb (2147483647 - a + n) (lifted b)
    past (pos b) fb h = same_test (n - suc a) b (2147483647 - a + n) (b + 2147483648) (λ g. omega (arith, fa.sfits)) (λ g. omega (arith, fa.sfits))
    past (negsuc b) fb h = sym (lt-leb (2147483647 - a + n) (2147483647 - b) (omega (arith, fa.sfits)))

    short : (b : ℤ) → SFits w32 b → n < suc a → le_z (negsuc (suc a - suc n)) b ≡ leb (2147483647 - a + n) (lifted b)
    short (pos b) fb h = sym (le-leb (2147483647 - a + n) (b + 2147483648) (omega (arith, fa.sfits)))
    short (negsuc b) fb h = same_test b (suc a - suc n) (2147483647 - a + n) (2147483647 - b) (λ g. omega (arith, fa.sfits)) (λ g. omega (arith, fa.sfits, fb.sfits))

-- lifted metres stand in the order of the metres
pub lifted_order : (a b : ℤ) → SFits w32 a → SFits w32 b → le_z a b ≡ leb (lifted a) (lifted b)
lifted_order a b fa fb =
    ap (λ (k : ℤ). le_z k b) (sym (+ℤ_idr a)) ∙ reach_order a 0 b fa fb ∙ ap (λ (k : ℕ). leb k (lifted b)) (omega arith)

-- an edge along a metre of the grid is in the column of the places there
pub strip_floor : (o : ℤ) (c : ℕ) (x : ℤ) → SFits w32 o → SFits w32 x → within o c x ≡ true → edge_strip o c x ≡ pos (strip o c x)
strip_floor o c x fo fx inside = rw (ahead x o fx fo (from_edge o c x inside))
