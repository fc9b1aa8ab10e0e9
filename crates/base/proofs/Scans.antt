-- One test of many things: all pass where each does, over the numbers below n and over the elements of a list.
-- Assumes nothing.
use Prim.Native.Nat.{ℕ, zero, suc, ◌+◌, ◌≤◌, ◌<◌}
use mathlib.Core.Path.{◌≡◌, refl, sym, ap, ◌∙◌}
use mathlib.Core.Bool.{Bool, true, ◌&&◌}
use mathlib.Core.List.{List, [], ◌∷◌, ◌++◌}
use mathlib.Core.Logic.{⊎_elim}
use native.Mathlib.Nat.{eq-or-lt_of_le}
use native.Mathlib.Omega.{arith}
use lib.ListN.{length, get_or}
use borrow.Table.Steps.{cases}
use lib.Dec.{eqb}
use Rattle.base.specs.Lists.{all, each, from_on, up_to, begins}
use Rattle.base.proofs.Runs.{from_shift}
use Rattle.base.proofs.Tests.{and_left, and_right}

module _ (p : ℕ → Bool) where
  all_from : (a n k : ℕ) → all p (from_on a n) ≡ true → a ≤ k → k < a + n → p k ≡ true
  all_from a zero k e l h = absurd (omega arith)
  all_from a (suc n) k e l h =
      ⊎_elim
      (λ (same : a ≡ k). rw same at (and_left (p a) (all p (from_on (suc a) n)) e))
      (λ (more : a < k). all_from (suc a) n k (and_right (p a) (all p (from_on (suc a) n)) e) more (omega arith))
      (eq-or-lt_of_le l)

  -- what holds of every number below n holds of each
  pub all-at : (n k : ℕ) → all p (up_to n) ≡ true → k < n → p k ≡ true
  all-at n k e h = all_from 0 n k e (omega arith) (omega arith)

  of_each : (a n : ℕ) → ((k : ℕ) → a ≤ k → k < a + n → p k ≡ true) → all p (from_on a n) ≡ true
  of_each a zero h = refl
  of_each a (suc n) h = rw (h a (omega arith) (omega arith)) (of_each (suc a) n (λ k l u. h k (omega arith) (omega arith)))

  -- what holds of each number below n holds of every one
  pub all_of : (n : ℕ) → ((k : ℕ) → k < n → p k ≡ true) → all p (up_to n) ≡ true
  all_of n h = of_each 0 n (λ k l u. h k (omega arith))

-- of two lists, one after the other
module _ {A : Type 0} (p : A → Bool) where
  all_parts : (s t : List A) → all p (s ++ t) ≡ all p s && all p t
  all_parts [] t = refl
  all_parts (x ∷ s) t = cases (p x) (λ e. rw e (all_parts s t)) (λ e. rw e)

  pub all_both : (s t : List A) → all p s ≡ true → all p t ≡ true → all p (s ++ t) ≡ true
  all_both s t h k = all_parts s t ∙ rw (h, k)

  pub all_left : (s t : List A) → all p (s ++ t) ≡ true → all p s ≡ true
  all_left s t h = and_left (all p s) (all p t) (sym (all_parts s t) ∙ h)

  pub all_right : (s t : List A) → all p (s ++ t) ≡ true → all p t ≡ true
  all_right s t h = and_right (all p s) (all p t) (sym (all_parts s t) ∙ h)

-- of a list by what f makes of each element
pub all-each : {A B : Type 0} (p : B → Bool) (f : A → B) (l : List A) → all p (each f l) ≡ all (λ x. p (f x)) l
all-each p f [] = refl
all-each p f (x ∷ l) = ap (λ b. p (f x) && b) (all-each p f l)

-- by another test that tells the same
pub all_same : {A : Type 0} (p q : A → Bool) → ((x : A) → p x ≡ q x) → (l : List A) → all p l ≡ all q l
all_same p q same [] = refl
all_same p q same (x ∷ l) = rw (same x, all_same p q same l)

-- a list begins with another where it has each of its elements
pub begins_all : (p n : List ℕ) → length p ≤ length n → all (λ i. eqb (get_or p i 0) (get_or n i 0)) (up_to (length p)) ≡ begins p n
begins_all [] n h = refl
begins_all (a ∷ p) [] h = absurd (omega arith)
begins_all (a ∷ p) (b ∷ n) h =
    let test : ℕ → Bool = λ i. eqb (get_or (a ∷ p) i 0) (get_or (b ∷ n) i 0) in
    ap (λ r. eqb a b && r) (ap (all test) (from_shift 0 (length p)) ∙ all-each test suc (up_to (length p)) ∙ begins_all p n (omega arith))
