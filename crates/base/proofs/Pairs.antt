-- Lists in which each member stands in one relation to all that follow it: how that is kept, and what it says of places.
-- Rising numbers, and a list put part by part, are such lists. Assumes nothing.
use mathlib.Core.Path.{◌≡◌, refl, sym, ◌∙◌}
use mathlib.Core.Logic.{◌⊎◌, inl, inr, ⊎_elim}
use mathlib.Core.Bool.{Bool}
use mathlib.Core.List.{List, [], ◌∷◌, ◌++◌}
use Prim.Native.Nat.{ℕ, zero, suc, ◌+◌, ◌≤◌, ◌<◌}
use native.Mathlib.Omega.{arith}
use lib.Dec.{eqb}
use lib.ListN.{length, take, get_or}
use borrow.Table.Steps.{cases}
use borrow.Author.Tests.{eqb-true}
use Rattle.base.specs.Lists.{from_on, keep, each, each_list, first_of, sort_by, In, Pairwise}
use Rattle.base.proofs.Tests.{le_or_lt}
use Rattle.base.proofs.Members.{in_right, in_either, get_or_in, keep-in, in_take, in-each, in-each_list}
use Rattle.base.proofs.Runs.{in_from}
use Rattle.base.proofs.Shuffles.{Shuffle, shuffle_sym, shuffle_length, shuffle_in, in_shuffle, sort_shuffle, part}
use Rattle.base.proofs.Shuffles as shuffles

module _ {A : Type 0} (R : A → A → Type 0) where
  pub pairs_append : (s t : List A) → Pairwise R s → Pairwise R t → ((x y : A) → In x s → In y t → R x y) → Pairwise R (s ++ t)
  pairs_append [] t hs ht h = ht
  pairs_append (x ∷ s) t hs ht h = ((λ y k. ⊎_elim (hs.0 y) (h x y (inl refl)) (in_either y s t k)), pairs_append s t hs.1 ht (λ u v k. h u v (inr k)))

  -- what stands before a seam, to what stands behind it
  pub pairs_seam : (s t : List A) → Pairwise R (s ++ t) → (x y : A) → In x s → In y t → R x y
  pairs_seam [] t h x y u v = absurd u
  pairs_seam (z ∷ s) t h x y (inl e) v = rw e (h.0 y (in_right y s t v))
  pairs_seam (z ∷ s) t h x y (inr u) v = pairs_seam s t h.1 x y u v

  pub pairs_keep : (f : A → Bool) (l : List A) → Pairwise R l → Pairwise R (keep f l)
  pairs_keep f [] h = tt
  pairs_keep f (x ∷ l) h =
      let r = pairs_keep f l h.1 in
      cases (f x) (λ q. rw q ((λ y k. h.0 y (keep-in f l y k).0), r)) (λ q. rw q r)

  pub pairs_take : (k : ℕ) (l : List A) → Pairwise R l → Pairwise R (take k l)
  pairs_take zero l h = tt
  pairs_take (suc k) [] h = tt
  pairs_take (suc k) (x ∷ l) h = ((λ y u. h.0 y (in_take k l y u)), pairs_take k l h.1)

  -- a relation that goes both ways holds in any order
  pairs_shuffle : ((x y : A) → R x y → R y x) → {l m : List A} → Shuffle l m → Pairwise R l → Pairwise R m
  pairs_shuffle both (shuffles.same l) h = h
  pairs_shuffle both (shuffles.below x p) h = ((λ y k. h.0 y (shuffle_in (shuffle_sym p) y k)), pairs_shuffle both p h.1)
  pairs_shuffle both (shuffles.swap x y l) h =
      ((λ z. ⊎_elim (λ e. rw e (both x y (h.0 y (inl refl)))) (h.1.0 z)), ((λ z k. h.0 z (inr k)), h.1.1))
  pairs_shuffle both (shuffles.next p q) h = pairs_shuffle both q (pairs_shuffle both p h)

  -- by places
  pub pairs_at : (d : A) (l : List A) → Pairwise R l → (i k : ℕ) → i < k → k < length l → R (get_or l i d) (get_or l k d)
  pairs_at d [] h i k u v = absurd (omega arith)
  pairs_at d (x ∷ l) h i zero u v = absurd (omega arith)
  pairs_at d (x ∷ l) h zero (suc k) u v = h.0 (get_or l k d) (get_or_in d l k (omega arith))
  pairs_at d (x ∷ l) h (suc i) (suc k) u v = pairs_at d l h.1 i k (omega arith) (omega arith)

pub pairs_each : {A B : Type 0} (R : B → B → Type 0) (f : A → B) (l : List A) → Pairwise (λ x y. R (f x) (f y)) l → Pairwise R (each f l)
pairs_each R f [] h = tt
pairs_each R f (x ∷ l) h = ((λ y k. let s = in-each f l y k in rw s.2 (h.0 s.0 s.1)), pairs_each R f l h.1)

-- what follows of two relations for each pair
pub pairs_join : {A : Type 0} (R S T : A → A → Type 0) (l : List A) → ((x y : A) → In x l → In y l → R x y → S x y → T x y)
    → Pairwise R l → Pairwise S l → Pairwise T l
pairs_join R S T [] f h k = tt
pairs_join R S T (x ∷ l) f h k =
    ((λ y u. f x y (inl refl) (inr u) (h.0 y u) (k.0 y u)), pairs_join R S T l (λ a b u v. f a b (inr u) (inr v)) h.1 k.1)

pub pairs_weaken : {A : Type 0} (R S : A → A → Type 0) (l : List A) → ((x y : A) → In x l → In y l → R x y → S x y) → Pairwise R l → Pairwise S l
pairs_weaken R S l f h = pairs_join R R S l (λ x y u v r s. f x y u v r) h h

-- ---- no two members with one key

abbrev pub Distinct : {A B : Type 0} → (A → B) → List A → Type 0
Distinct key l = Pairwise (λ x y. key x ≡ key y → ⊥) l

-- two places with one key are one place
pub distinct_once : {A B : Type 0} (key : A → B) (d : A) (l : List A) → Distinct key l
    → (i k : ℕ) → i < length l → k < length l → key (get_or l i d) ≡ key (get_or l k d) → i ≡ k
distinct_once key d l h i k u v e =
    ⊎_elim
    (λ (a : k ≤ i). ⊎_elim (λ (b : i ≤ k). omega arith) (λ b. absurd (pairs_at _ d l h k i b u (sym e))) (le_or_lt i k))
    (λ a. absurd (pairs_at _ d l h i k a v e))
    (le_or_lt k i)

-- distinct members of a list are no more than it has
pub distinct_few : {A : Type 0} (l m : List A) → Distinct (λ x. x) l → ((x : A) → In x l → In x m) → length l ≤ length m
distinct_few [] m d h = omega arith
distinct_few (x ∷ l) m d h =
    let s = in_shuffle x m (h x (inl refl)) in
    let r = distinct_few l s.0 d.1 (λ y k. ⊎_elim (λ e. absurd (d.0 y k (sym e))) (λ u. u) (shuffle_in s.1 y (h y (inr k)))) in
    omega (arith, shuffle_length s.1)

pub distinct_sort : {A B : Type 0} (key : A → B) (before : A → A → Bool) (l : List A) → Distinct key l → Distinct key (sort_by before l)
distinct_sort key before l h = pairs_shuffle (λ x y. key x ≡ key y → ⊥) (λ x y n e. n (sym e)) (shuffle_sym (sort_shuffle before l)) h

-- ---- rising numbers

abbrev pub Less : ℕ → ℕ → Type 0
Less x y = x < y

pub less_from : (a n : ℕ) → Pairwise Less (from_on a n)
less_from a zero = tt
less_from a (suc n) = ((λ y k. (in_from (suc a) n y k).0), less_from (suc a) n)

-- what is made of numbers that rise, where each number can be told from what is made of it
pub distinct_less : {A : Type 0} (key : A → ℕ) (f : ℕ → A) (l : List ℕ) → ((x : ℕ) → key (f x) ≡ x) → Pairwise Less l → Distinct key (each f l)
distinct_less key f l back h =
    pairs_each (λ x y. key x ≡ key y → ⊥) f l (pairs_weaken Less (λ x y. key (f x) ≡ key (f y) → ⊥) l (λ x y u v k e. omega (arith, back x, back y)) h)

-- the first of numbers that rise is the least
pub less_first : (l : List ℕ) → Pairwise Less l → (x : ℕ) → In x l → first_of l ≤ x
less_first [] h x k = absurd k
less_first (y ∷ l) h x (inl e) = omega arith
less_first (y ∷ l) h x (inr k) = omega (arith, h.0 x k)

-- numbers that rise, from a on and below a + n, are at most n
pub less_few : (l : List ℕ) (a n : ℕ) → Pairwise Less l → ((x : ℕ) → In x l → (a ≤ x) × (x < a + n)) → length l ≤ n
less_few [] a n h b = omega arith
less_few (x ∷ l) a zero h b = let s = b x (inl refl) in absurd (omega arith)
less_few (x ∷ l) a (suc n) h b =
    let s = b x (inl refl) in
    let r = less_few l (suc a) n h.1 (λ y k. let u = h.0 y k in let v = b y (inr k) in (omega arith, omega arith)) in
    omega arith

-- a rising list put by ρ's values rises by those, then by number
module _ (ρ : ℕ → ℕ) where
  abbrev pub PartFirst : ℕ → ℕ → Type 0
  PartFirst x y = (ρ x < ρ y) ⊎ ((ρ x ≡ ρ y) × (x < y))

  pub parts_pairs : (l : List ℕ) → Pairwise Less l → (a n : ℕ) → Pairwise PartFirst (each_list (λ r. part ρ r l) (from_on a n))
  parts_pairs l h a zero = tt
  parts_pairs l h a (suc n) =
      let of : (r x : ℕ) → In x (part ρ r l) → ρ x ≡ r = λ r x k. eqb-true (ρ x) r (keep-in (λ i. eqb (ρ i) r) l x k).1 in
      pairs_append PartFirst (part ρ a l) (each_list (λ r. part ρ r l) (from_on (suc a) n))
      (pairs_weaken Less PartFirst (part ρ a l) (λ x y u v k. inr (of a x u ∙ sym (of a y v), k)) (pairs_keep Less (λ i. eqb (ρ i) a) l h))
      (parts_pairs l h (suc a) n)
      (λ x y u v.
      let s = in-each_list (λ r. part ρ r l) (from_on (suc a) n) y v in
      inl (omega (arith, of a x u, of s.0 y s.2, in_from (suc a) n s.0 s.1)))
