-- Sums over a list, how many of it pass a test, and the largest of it: put together, with one more, and bounded.
-- Counting goes by rows or by columns: how many pass for each of one list, or for each of the other. Assumes nothing.
use mathlib.Core.Path.{◌≡◌, refl, sym, ap, ◌∙◌, subst}
use mathlib.Core.Logic.{inl, inr}
use mathlib.Core.Bool.{Bool, true, cond, not, false≢true}
use mathlib.Core.List.{List, [], ◌∷◌, ◌++◌}
use Prim.Native.Nat.{ℕ, zero, suc, ◌+◌, ◌*◌, ◌≤◌, ◌<◌, max}
use native.Mathlib.Omega.{arith}
use native.Mathlib.Nat.{mul-suc}
use lib.Dec.{ltb}
use lib.ListN.{length, take, get_or}
use borrow.Table.Steps.{cases}
use borrow.Author.Tests.{ltb-true, ltb-false}
use Rattle.base.specs.Lists.{keep, each, total, largest, is_empty, In}
use Rattle.base.specs.Bits.{bit}
use Rattle.base.proofs.Members.{each_same}

-- ---- sums

pub total-append : (s u : List ℕ) → total (s ++ u) ≡ total s + total u
total-append [] u = omega arith
total-append (x ∷ s) u = omega (arith, total-append s u)

module _ {A : Type 0} (f : A → ℕ) where
  -- a sum with one term more
  pub total-suc : (d : A) (l : List A) (j : ℕ) → j < length l → total (each f (take (suc j) l)) ≡ total (each f (take j l)) + f (get_or l j d)
  total-suc d [] j h = absurd (omega arith)
  total-suc d (x ∷ l) zero h = omega arith
  total-suc d (x ∷ l) (suc j) h = let r = total-suc d l j (omega arith) in omega arith

  -- a sum with terms left out
  pub total-take : (l : List A) (j : ℕ) → total (each f (take j l)) ≤ total (each f l)
  total-take l zero = omega arith
  total-take [] (suc j) = omega arith
  total-take (x ∷ l) (suc j) = omega (arith, total-take l j)

  pub total_most : (c : ℕ) (l : List A) → ((x : A) → In x l → f x ≤ c) → total (each f l) ≤ c * length l
  total_most c [] h = omega arith
  total_most c (x ∷ l) h = rw (mul-suc c (length l)) (omega (arith, h x (inl refl), total_most c l (λ y k. h y (inr k))))

module _ {A : Type 0} (f g : A → ℕ) where
  pub total_less : (l : List A) → ((x : A) → In x l → f x ≤ g x) → total (each f l) ≤ total (each g l)
  total_less [] h = omega arith
  total_less (x ∷ l) h = omega (arith, h x (inl refl), total_less l (λ y k. h y (inr k)))

  total-add : (l : List A) → total (each (λ x. f x + g x) l) ≡ total (each f l) + total (each g l)
  total-add [] = refl
  total-add (x ∷ l) = omega (arith, total-add l)

-- ---- how many pass

module _ {A : Type 0} (f : A → Bool) where
  count_cons : (x : A) (l : List A) → length (keep f (x ∷ l)) ≡ bit (f x) + length (keep f l)
  count_cons x l = cases (f x) (λ q. rw q (omega arith)) (λ q. rw q (omega arith))

  count_bits : (l : List A) → total (each (λ x. bit (f x)) l) ≡ length (keep f l)
  count_bits [] = refl
  count_bits (x ∷ l) = omega (arith, count_cons x l, count_bits l)

  -- no more pass than the sum of numbers that are at least 1 for each that passes
  pub count_less : (g : A → ℕ) (l : List A) → ((x : A) → f x ≡ true → 1 ≤ g x) → length (keep f l) ≤ total (each g l)
  count_less g l h = rw (sym (count_bits l)) (total_less (λ x. bit (f x)) g l (λ x k. cases (f x) (λ q. rw q (h x q)) (λ q. rw q (omega arith))))

-- the pairs that pass, counted by the one list or by the other
pub count_both : {A B : Type 0} (f : A → B → Bool) (l : List A) (m : List B)
    → total (each (λ x. length (keep (f x) m)) l) ≡ total (each (λ y. length (keep (λ x. f x y) l)) m)
count_both f [] m = omega (arith, total_most (λ y. 0) 0 m (λ y k. omega arith))
count_both {A} {B} f (x ∷ l) m =
    let rest : B → ℕ = λ y. length (keep (λ x. f x y) l) in
    let more = ap total (each_same (λ y. length (keep (λ x. f x y) (x ∷ l))) (λ y. bit (f x y) + rest y) m (λ y k. count_cons (λ x. f x y) x l)) in
    omega (arith, count_both f l m, count_bits (f x) m, total-add (λ y. bit (f x y)) rest m)

-- ---- the largest

larger_max : (a b : ℕ) → cond (ltb a b) b a ≡ max a b
larger_max a b = cases (ltb a b) (λ q. rw q (omega (arith, ltb-true a b q))) (λ q. rw q (omega (arith, ltb-false a b q)))

pub largest_last : (l : List ℕ) (x : ℕ) → largest (l ++ (x ∷ [])) ≡ cond (ltb (largest l) x) x (largest l)
largest_last [] x = larger_max x 0 ∙ omega (arith, larger_max 0 x)
largest_last (y ∷ l) x =
    omega (arith, larger_max y (largest (l ++ (x ∷ []))), largest_last l x, larger_max (largest l) x, larger_max y (largest l), larger_max (largest (y ∷ l)) x)

pub in-largest : (l : List ℕ) (x : ℕ) → In x l → x ≤ largest l
in-largest [] x h = absurd h
in-largest (y ∷ l) x (inl e) = omega (arith, larger_max y (largest l))
in-largest (y ∷ l) x (inr h) = omega (arith, larger_max y (largest l), in-largest l x h)

pub largest-in : (l : List ℕ) → not (is_empty l) ≡ true → In (largest l) l
largest-in [] h = absurd (false≢true h)
largest-in (y ∷ []) h = inl (larger_max y 0 ∙ omega arith)
largest-in (y ∷ z ∷ l) h =
    let m = largest (z ∷ l) in
    let P : ℕ → Type 0 = λ x. In x (y ∷ z ∷ l) in
    cases (ltb y m)
    (λ q. subst P (ap (λ (b : Bool). cond b m y) (sym q)) (inr (largest-in (z ∷ l) refl)))
    (λ q. subst P (ap (λ (b : Bool). cond b m y) (sym q)) (inl refl))
