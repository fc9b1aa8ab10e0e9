-- Squares keep the order, and the root of a number is the one whose square is at most it while that of the next is more.
-- So it is the largest such number, and never falls as the number rises. Assumes nothing.
use mathlib.Core.Path.{◌≡◌}
use mathlib.Core.Logic.{⊎_elim}
use Prim.Native.Nat.{ℕ, zero, suc, ◌+◌, ◌<◌, ◌≤◌}
use native.Mathlib.Nat.{mul-le-mul, mul-le-mul_left, mul-lt-mul_of_pos_right, le_of_lt, lt_of_le_of_lt}
use native.Mathlib.Omega.{arith}
use lib.Dec.{leb}
use borrow.Table.Steps.{cases}
use borrow.Author.Tests.{leb-true, leb-false}
use Rattle.base.proofs.Tests.{le_or_lt}
use Rattle.rules.specs.Worth.{squared, root_from, root, IsRoot}

pub square_less : (a n : ℕ) → a < n → squared a < squared n
square_less a n h = lt_of_le_of_lt (mul-le-mul_left a (le_of_lt h)) (mul-lt-mul_of_pos_right h (omega arith))

pub square_most : (a n : ℕ) → a ≤ n → squared a ≤ squared n
square_most a n h = mul-le-mul h h

-- a number whose square is at most n is no larger than one whose successor's square is more
pub no_larger : (a b n : ℕ) → squared a ≤ n → n < squared (suc b) → a ≤ b
no_larger a b n h k = ⊎_elim (λ (l : a ≤ b). l) (λ (l : b < a). absurd (omega (arith, square_most (suc b) a l))) (le_or_lt a b)

-- counting up to where the square is surely more
from_is : (steps r n past : ℕ) → squared r ≤ n → suc (r + steps) ≡ past → n < squared past → IsRoot n (root_from steps r n)
unfolding root_from
from_is zero r n past h e k = let next : past ≡ suc r = omega arith in record { most = h; next = rw next at k }
from_is (suc steps) r n past h e k =
    cases (leb (squared (suc r)) n)
    (λ q. rw q (from_is steps (suc r) n past (leb-true (squared (suc r)) n q) (omega arith) k))
    (λ q. rw q (record { most = h; next = leb-false (squared (suc r)) n q }))

-- for the reader: the root is what it is called
pub root_is : (n : ℕ) → IsRoot n (root n)
unfolding root
root_is n =
    let some : 1 ≤ suc n = omega arith in
    from_is n 0 n (suc n) (omega arith) (omega arith) (omega (arith, mul-le-mul_left (suc n) some))

-- no other number is
pub root_only : (n r : ℕ) → IsRoot n r → r ≡ root n
root_only n r w =
    let here = root_is n in
    omega (arith, no_larger r (root n) n w.most here.next, no_larger (root n) r n here.most w.next)

-- and none whose square is at most n is larger
pub root-largest : (n k : ℕ) → squared k ≤ n → k ≤ root n
root-largest n k h = no_larger k (root n) n h (root_is n).next

pub root_order : (m n : ℕ) → m ≤ n → root m ≤ root n
root_order m n h = root-largest n (root m) (omega (arith, (root_is m).most))
