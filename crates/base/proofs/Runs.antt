-- Runs of numbers: their places and members, how they split, and the run that a convex test keeps of one.
-- Assumes nothing.
use mathlib.Core.Path.{◌≡◌, refl, sym, ap, ◌∙◌}
use mathlib.Core.Logic.{inl, inr, ⊎_elim}
use mathlib.Core.Bool.{Bool, true, false}
use mathlib.Core.List.{List, [], ◌∷◌, ◌++◌, append-nil}
use Prim.Native.Nat.{ℕ, zero, suc, ◌+◌, ◌-◌, ◌≤◌, ◌<◌}
use native.Mathlib.Omega.{arith}
use native.Mathlib.Nat.{add-suc, add-zero, add_comm, zero-add, suc-add, eq-or-lt_of_le}
use lib.ListN.{length, get_or, set, replicate, length-append, get_or-append}
use lib.Seq.{get_or-append_seam}
use borrow.Table.Steps.{cases}
use Rattle.base.specs.Lists.{from_on, up_to, keep, each, each_list, first_of, In}
use Rattle.base.proofs.Tests.{never, refuted, Unlike, alike, le_or_lt}
use Rattle.base.proofs.Members.{keep_none, keep_append, keep-each, get_or-each, each-each, each_same, each_list-append}

pub length_from : (a n : ℕ) → length (from_on a n) ≡ n
length_from a zero = refl
length_from a (suc n) = ap suc (length_from (suc a) n)

pub get_or_from : (a n i d : ℕ) → i < n → get_or (from_on a n) i d ≡ a + i
get_or_from a zero i d h = absurd (omega arith)
get_or_from a (suc n) zero d h = omega arith
get_or_from a (suc n) (suc i) d h = let t = get_or_from (suc a) n i d (omega arith) in omega arith

pub in_from : (a n x : ℕ) → In x (from_on a n) → (a ≤ x) × (x < a + n)
in_from a zero x h = absurd h
in_from a (suc n) x (inl e) = (omega arith, omega arith)
in_from a (suc n) x (inr h) = let t = in_from (suc a) n x h in (omega arith, omega arith)

pub from_in : (a n x : ℕ) → a ≤ x → x < a + n → In x (from_on a n)
from_in a zero x h k = absurd (omega arith)
from_in a (suc n) x h k = ⊎_elim (λ (e : a ≡ x). inl (sym e)) (λ (l : a < x). inr (from_in (suc a) n x l (omega arith))) (eq-or-lt_of_le h)

pub from_shift : (a n : ℕ) → from_on (suc a) n ≡ each suc (from_on a n)
from_shift a zero = refl
from_shift a (suc n) = ap (λ (l : List ℕ). suc a ∷ l) (from_shift (suc a) n)

-- the list by its places
pub each-get_or : {A : Type 0} (d : A) (l : List A) → l ≡ each (λ i. get_or l i d) (up_to (length l))
each-get_or d [] = refl
each-get_or {A} d (x ∷ l) = rw (from_shift 0 (length l), each-each (λ i. get_or (x ∷ l) i d) suc (up_to (length l))) (ap (λ (r : List A). x ∷ r) (each-get_or d l))

pub from_split : (a n m : ℕ) → from_on a (n + m) ≡ from_on a n ++ from_on (a + n) m
from_split a zero m = rw (zero-add, add-zero)
from_split a (suc n) m = rw (suc-add, add-suc) (ap (λ (l : List ℕ). a ∷ l) (rw suc-add at (from_split (suc a) n m)))

from_each : (a b n : ℕ) → from_on (b + a) n ≡ each (λ k. a + k) (from_on b n)
from_each a b zero = refl
from_each a b (suc n) = rw (← suc-add b a, from_each a (suc b) n, add_comm b a)

-- what a test keeps of the first a numbers, and of the b above
pub keep-halves : (f : ℕ → Bool) (a b : ℕ) → keep f (up_to (a + b)) ≡ keep f (up_to a) ++ each (λ k. a + k) (keep (λ k. f (a + k)) (up_to b))
keep-halves f a b = rw (from_split 0 a b, keep_append f (up_to a) (from_on (0 + a) b), from_each a 0 b, keep-each f (λ k. a + k) (up_to b))

pub up_to_split : (i n : ℕ) → i < n → up_to n ≡ up_to i ++ (i ∷ from_on (suc i) (n - suc i))
up_to_split i n h =
    let e : n ≡ i + suc (n - suc i) = omega arith in
    ap up_to e ∙ from_split 0 i (suc (n - suc i)) ∙ rw (zero-add i)

pub up_to-suc : (i : ℕ) → up_to (suc i) ≡ up_to i ++ (i ∷ [])
up_to-suc i = let z : suc i - suc i ≡ 0 = omega arith in up_to_split i (suc i) (omega arith) ∙ ap (λ (k : ℕ). up_to i ++ (i ∷ from_on (suc i) k)) z

pub each_list-suc : {B : Type 0} (f : ℕ → List B) (i : ℕ) → each_list f (up_to (suc i)) ≡ each_list f (up_to i) ++ f i
each_list-suc f i = ap (each_list f) (up_to-suc i) ∙ each_list-append f (up_to i) (i ∷ []) ∙ simp append-nil

pub get_or-each_from : {B : Type 0} (g : ℕ → B) (a n k : ℕ) (d : B) → k < n → get_or (each g (from_on a n)) k d ≡ g (a + k)
get_or-each_from g a n k d h = get_or-each g (from_on a n) k 0 d (omega (arith, length_from a n)) ∙ ap g (get_or_from a n k 0 h)

-- what lists the same everywhere
pub each_constant : {B : Type 0} (g : ℕ → B) (v : B) → ((i : ℕ) → g i ≡ v) → (a n : ℕ) → each g (from_on a n) ≡ replicate n v
each_constant g v h a zero = refl
each_constant g v h a (suc n) = rw (h a, each_constant g v h (suc a) n)

set_from : {B : Type 0} (f g : ℕ → B) (a n k : ℕ) (v : B) → v ≡ g (a + k) → ((i : ℕ) → (i ≡ a + k → ⊥) → f i ≡ g i)
    → set (each f (from_on a n)) k v ≡ each g (from_on a n)
set_from f g a zero k v here other = refl
set_from f g a (suc n) zero v here other =
    rw (here ∙ ap g (add-zero a), each_same f g (from_on (suc a) n) (λ i h. other i (omega (arith, in_from (suc a) n i h))))
set_from f g a (suc n) (suc k) v here other =
    rw (other a (omega arith), set_from f g (suc a) n k v (here ∙ ap g (omega arith)) (λ i d. other i (omega arith)))

-- one place of a listing set anew: what is listed then agrees with what was listed, but for that place
pub set-each : {B : Type 0} (f g : ℕ → B) (n k : ℕ) (v : B) → v ≡ g k → ((i : ℕ) → (i ≡ k → ⊥) → f i ≡ g i) → set (each f (up_to n)) k v ≡ each g (up_to n)
set-each f g n k v here other = set_from f g 0 n k v (here ∙ ap g (omega arith)) (λ i d. other i (omega arith))

-- a run: its members are its first one, one more, ..
abbrev pub Run : List ℕ → Type 0
Run l = l ≡ from_on (first_of l) (length l)

module _ (f : ℕ → Bool) (e : ℕ) where
  -- where all that pass come first
  keep_down : (a n : ℕ) → a + n ≡ e → ((i k : ℕ) → a ≤ i → i ≤ k → k < e → f k ≡ true → f i ≡ true) → keep f (from_on a n) ≡ from_on a (length (keep f (from_on a n)))
  keep_down a zero q down = refl
  keep_down a (suc n) q down =
      cases (f a)
      (λ r. rw r (ap (λ (l : List ℕ). a ∷ l) (keep_down (suc a) n (omega arith) (λ i k u. down i k (omega arith)))))
      (λ r.
      let off : (x : ℕ) → In x (from_on (suc a) n) → f x ≡ false = λ x h.
      let t = in_from (suc a) n x h in refuted _ (λ s. never _ (down a x (omega arith) (omega arith) (omega arith) s) r) in
      rw (r, keep_none f (from_on (suc a) n) off))

  -- what a convex test keeps of a run is a run
  pub keep_run : (a n : ℕ) → a + n ≡ e → ((i j k : ℕ) → i ≤ j → j ≤ k → k < e → f i ≡ true → f k ≡ true → f j ≡ true) → Run (keep f (from_on a n))
  keep_run a zero q convex = refl
  keep_run a (suc n) q convex =
      cases (f a)
      (λ r. rw r (ap (λ (l : List ℕ). a ∷ l) (keep_down (suc a) n (omega arith) (λ i k u v w s. convex a i k (omega arith) v w r s))))
      (λ r. rw r (keep_run (suc a) n (omega arith) convex))

-- a test that tells two numbers apart tells two neighbours between them apart
pub turn : (f : ℕ → Bool) (a b : ℕ) → a ≤ b → (f a ≡ f b → ⊥) → (x : ℕ) × (a ≤ x) × (x < b) × Unlike (f x) (f (suc x))
turn f a zero h n = absurd (n (ap f (omega arith)))
turn f a (suc b) h n =
    ⊎_elim
    (λ (e : a ≡ suc b). absurd (n (ap f e)))
    (λ (l : a < suc b).
    ⊎_elim
    (λ (s : f b ≡ f (suc b)). let r = turn f a b (omega arith) (λ e. n (e ∙ s)) in (r.0, r.1, omega arith, r.3))
    (λ d. (b, omega arith, omega arith, d))
    (alike (f b) (f (suc b))))
    (eq-or-lt_of_le h)

-- what stands at place k of the numbers below n that pass: it passes, as k smaller ones do
abbrev pub KeptAt : (ℕ → Bool) → ℕ → ℕ → Type 0
KeptAt f n k = (x : ℕ) × (get_or (keep f (up_to n)) k 0 ≡ x) × (x < n) × (f x ≡ true) × (length (keep f (up_to x)) ≡ k)

pub keep_at : (f : ℕ → Bool) (n k : ℕ) → k < length (keep f (up_to n)) → KeptAt f n k
keep_at f zero k h = absurd (omega arith)
keep_at f (suc n) k h =
    let some = keep f (up_to n) in
    let whole = ap (keep f) (up_to-suc n) ∙ keep_append f (up_to n) (n ∷ []) in
    let size = ap length whole ∙ length-append some (keep f (n ∷ [])) in
    ⊎_elim
    (λ (l : length some ≤ k).
    cases (f n)
    (λ q.
    let one : keep f (n ∷ []) ≡ n ∷ [] = rw q in
    let e : k ≡ length some = omega (arith, ap length one) in
    (n, ap (λ (m : List ℕ). get_or m k 0) (whole ∙ ap (λ (m : List ℕ). some ++ m) one) ∙ rw e (get_or-append_seam some n [] 0), omega arith, q, sym e))
    (λ q. let none : keep f (n ∷ []) ≡ [] = rw q in absurd (omega (arith, ap length none))))
    (λ (l : k < length some).
    let r = keep_at f n k l in
    (r.0, ap (λ (m : List ℕ). get_or m k 0) whole ∙ get_or-append some (keep f (n ∷ [])) 0 k l ∙ r.1, omega (arith, r.2), r.3, r.4))
    (le_or_lt (length some) k)
