-- Members of a list and what stands at its places; what `keep`, `each` and `each_list` do to them.
-- Assumes nothing.
use mathlib.Core.Path.{◌≡◌, refl, sym, ap, ◌∙◌, subst}
use mathlib.Core.Logic.{◌⊎◌, inl, inr, ⊎_elim}
use mathlib.Core.Bool.{Bool, true, false, not, ◌&&◌, and_comm, true≢false, false≢true}
use mathlib.Core.List.{List, [], ◌∷◌, ◌++◌, append_assoc}
use Prim.Native.Nat.{ℕ, zero, suc, ◌≤◌, ◌<◌, ◌+◌, ◌-◌}
use native.Mathlib.Nat.{sub-zero, zero-sub, suc-sub-suc}
use native.Mathlib.Omega.{arith}
use lib.ListN.{length, take, drop, get_or, length-drop, set, replicate}
use lib.Seq.{drop-cons, take-nil}
use borrow.Table.Steps.{cases}
use borrow.Author.Tests.{eq-eqb, ne_eqb}
use Rattle.base.specs.Lists.{keep, each, each_list, first_of, is_empty, position_in, In}
use Rattle.base.proofs.Tests.{both_ways, Unlike, alike}

pub in_left : {A : Type 0} (x : A) (s t : List A) → In x s → In x (s ++ t)
in_left x [] t h = absurd h
in_left x (y ∷ s) t (inl e) = inl e
in_left x (y ∷ s) t (inr h) = inr (in_left x s t h)

pub in_right : {A : Type 0} (x : A) (s t : List A) → In x t → In x (s ++ t)
in_right x [] t h = h
in_right x (y ∷ s) t h = inr (in_right x s t h)

pub in_either : {A : Type 0} (x : A) (s t : List A) → In x (s ++ t) → In x s ⊎ In x t
in_either x [] t h = inr h
in_either x (y ∷ s) t (inl e) = inl (inl e)
in_either x (y ∷ s) t (inr h) = ⊎_elim (λ k. inl (inr k)) (λ k. inr k) (in_either x s t h)

pub in_take : {A : Type 0} (k : ℕ) (l : List A) (x : A) → In x (take k l) → In x l
in_take zero l x h = absurd h
in_take (suc k) [] x h = h
in_take (suc k) (y ∷ l) x (inl e) = inl e
in_take (suc k) (y ∷ l) x (inr h) = inr (in_take k l x h)

-- ---- by place

pub get_or_in : {A : Type 0} (d : A) (l : List A) (i : ℕ) → i < length l → In (get_or l i d) l
get_or_in d [] i h = absurd (omega arith)
get_or_in d (x ∷ l) zero h = inl refl
get_or_in d (x ∷ l) (suc i) h = inr (get_or_in d l i (omega arith))

pub in-at : {A : Type 0} (d x : A) (l : List A) → In x l → (i : ℕ) × (i < length l) × (get_or l i d ≡ x)
in-at d x [] h = absurd h
in-at d x (y ∷ l) (inl e) = (0, omega arith, sym e)
in-at d x (y ∷ l) (inr h) = let t = in-at d x l h in (suc t.0, omega arith, t.2)

-- a number that is not among those before it stands at their count
pub position_seam : (x : ℕ) (l z : List ℕ) → (In x l → ⊥) → position_in x (l ++ (x ∷ z)) ≡ length l
position_seam x [] z h = rw (eq-eqb x x refl)
position_seam x (y ∷ l) z h = rw (ne_eqb x y (λ e. h (inl e)), position_seam x l z (λ k. h (inr k)))

-- what stands at a place after a store is the value or what stood there
pub set_either : {A : Type 0} (l : List A) (i r : ℕ) (v d : A) → (get_or (set l i v) r d ≡ v) ⊎ (get_or (set l i v) r d ≡ get_or l r d)
set_either [] i r v d = inr refl
set_either (x ∷ l) zero zero v d = inl refl
set_either (x ∷ l) zero (suc r) v d = inr refl
set_either (x ∷ l) (suc i) zero v d = inr refl
set_either (x ∷ l) (suc i) (suc r) v d = set_either l i r v d

-- the same everywhere, within the list or past its end
pub replicate_at : {A : Type 0} (n r : ℕ) (d : A) → get_or (replicate n d) r d ≡ d
replicate_at zero r d = refl
replicate_at (suc n) zero d = refl
replicate_at (suc n) (suc r) d = replicate_at n r d

-- a part of a beginning
pub drop-take : {A : Type 0} (k n : ℕ) (l : List A) → drop k (take n l) ≡ take (n - k) (drop k l)
drop-take zero n l = rw (sub-zero n)
drop-take (suc k) zero l = rw (zero-sub (suc k))
drop-take (suc k) (suc n) [] = sym (take-nil (suc n - suc k))
drop-take (suc k) (suc n) (x ∷ l) = rw (suc-sub-suc n k) (drop-take k n l)

-- what is left of a list from place j on begins with what stands there
pub drop_head : {A : Type 0} (d x : A) (l m : List A) (j : ℕ) → drop j l ≡ x ∷ m → (j < length l) × (get_or l j d ≡ x) × (drop (suc j) l ≡ m)
drop_head d x l m j e =
    let h : j < length l = omega (arith, length-drop j l, ap length e) in
    let q = sym (drop-cons l j d h) ∙ e in
    (h, cc, cc)

-- ---- a list with a member is not empty, and one that is not empty has a member

pub in_some : {A : Type 0} (l : List A) (x : A) → In x l → not (is_empty l) ≡ true
in_some [] x h = absurd h
in_some (y ∷ l) x h = refl

pub some_in : {A : Type 0} (l : List A) → not (is_empty l) ≡ true → (x : A) × In x l
some_in [] h = absurd (false≢true h)
some_in (x ∷ l) h = (x, inl refl)

pub some_length : {A : Type 0} (l : List A) → not (is_empty l) ≡ true → 1 ≤ length l
some_length [] h = absurd (false≢true h)
some_length (x ∷ l) h = omega arith

pub empty_of : {A : Type 0} (l : List A) → not (is_empty l) ≡ false → l ≡ []
empty_of [] h = refl
empty_of (x ∷ l) h = absurd (true≢false h)

-- a list that is not empty is its first member and the rest
pub first_rest : (l : List ℕ) → is_empty l ≡ false → (l ≡ first_of l ∷ drop 1 l) × In (first_of l) l
first_rest [] h = absurd (true≢false h)
first_rest (x ∷ l) h = (refl, inl refl)

-- ---- keep

module _ {A : Type 0} (f : A → Bool) where
  pub in-keep : (l : List A) (x : A) → In x l → f x ≡ true → In x (keep f l)
  in-keep [] x h t = h
  in-keep (y ∷ l) x (inl e) t = rw (rw e at t) (inl e)
  in-keep (y ∷ l) x (inr h) t = cases (f y) (λ q. rw q (inr (in-keep l x h t))) (λ q. rw q (in-keep l x h t))

  pub keep-in : (l : List A) (x : A) → In x (keep f l) → In x l × (f x ≡ true)
  keep-in [] x h = absurd h
  keep-in (y ∷ l) x h =
      cases (f y)
      (λ q. ⊎_elim (λ e. (inl e, ap f e ∙ q)) (λ k. let r = keep-in l x k in (inr r.0, r.1)) (rw q at h))
      (λ q. let r = keep-in l x (rw q at h) in (inr r.0, r.1))

  pub keep_none : (l : List A) → ((x : A) → In x l → f x ≡ false) → keep f l ≡ []
  keep_none [] h = refl
  keep_none (y ∷ l) h = rw (h y (inl refl)) (keep_none l (λ x k. h x (inr k)))

  pub keep-every : (l : List A) → ((x : A) → In x l → f x ≡ true) → keep f l ≡ l
  keep-every [] h = refl
  keep-every (y ∷ l) h = rw (h y (inl refl)) (ap (λ (r : List A). y ∷ r) (keep-every l (λ x k. h x (inr k))))

  pub keep_append : (s t : List A) → keep f (s ++ t) ≡ keep f s ++ keep f t
  keep_append [] t = refl
  keep_append (y ∷ s) t = let r = keep_append s t in cases (f y) (λ q. rw (q, r)) (λ q. rw (q, r))

  pub length-keep : (l : List A) → length (keep f l) ≤ length l
  length-keep [] = omega arith
  length-keep (y ∷ l) = let r = length-keep l in cases (f y) (λ q. rw q (omega arith)) (λ q. rw q (omega arith))

-- tests that agree on the members keep the same
pub keep_same : {A : Type 0} (f g : A → Bool) (l : List A) → ((x : A) → In x l → f x ≡ g x) → keep f l ≡ keep g l
keep_same f g [] h = refl
keep_same f g (x ∷ l) h = rw (h x (inl refl), keep_same f g l (λ y k. h y (inr k)))

-- tests that keep the same agree on the members
pub keep-agree : {A : Type 0} (f g : A → Bool) (l : List A) → keep f l ≡ keep g l → (x : A) → In x l → f x ≡ g x
keep-agree f g l e x h =
    both_ways (f x) (g x)
    (λ q. (keep-in g l x (subst (In x) e (in-keep f l x h q))).1)
    (λ q. (keep-in f l x (subst (In x) (sym e) (in-keep g l x h q))).1)

-- tests that do not keep the same differ on a member
pub keep_unlike : {A : Type 0} (f g : A → Bool) (l : List A) → (keep f l ≡ keep g l) ⊎ ((x : A) × In x l × Unlike (f x) (g x))
keep_unlike f g [] = inl refl
keep_unlike f g (x ∷ l) =
    ⊎_elim
    (λ (e : f x ≡ g x). ⊎_elim (λ (r : keep f l ≡ keep g l). inl (rw (e, r))) (λ t. inr (t.0, inr t.1, t.2)) (keep_unlike f g l))
    (λ d. inr (x, inl refl, d))
    (alike (f x) (g x))

pub keep_both : {A : Type 0} (f g : A → Bool) (l : List A) → keep (λ x. f x && g x) l ≡ keep g (keep f l)
keep_both f g [] = refl
keep_both f g (x ∷ l) = let r = keep_both f g l in cases (f x) (λ q. simp (q, r)) (λ q. simp (q, r))

pub keep_comm : {A : Type 0} (f g : A → Bool) (l : List A) → keep f (keep g l) ≡ keep g (keep f l)
keep_comm f g l = sym (keep_both g f l) ∙ keep_same (λ x. g x && f x) (λ x. f x && g x) l (λ x h. and_comm (g x) (f x)) ∙ keep_both f g l

-- two tests of which no member passes both
pub keep_apart : {A : Type 0} (f g : A → Bool) (l : List A) → ((x : A) → f x ≡ true → g x ≡ false) → length (keep f l) + length (keep g l) ≤ length l
keep_apart f g [] h = omega arith
keep_apart f g (y ∷ l) h =
    let r = keep_apart f g l h in
    cases (f y)
    (λ a. rw (a, h y a) (omega arith))
    (λ a. cases (g y) (λ b. rw (a, b) (omega arith)) (λ b. rw (a, b) (omega arith)))

pub keep-each : {A B : Type 0} (f : B → Bool) (g : A → B) (l : List A) → keep f (each g l) ≡ each g (keep (λ x. f (g x)) l)
keep-each f g [] = refl
keep-each f g (x ∷ l) = let r = keep-each f g l in cases (f (g x)) (λ q. rw (q, r)) (λ q. rw (q, r))

-- ---- each

pub length-each : {A B : Type 0} (g : A → B) (l : List A) → length (each g l) ≡ length l
length-each g [] = refl
length-each g (x ∷ l) = ap suc (length-each g l)

pub get_or-each : {A B : Type 0} (f : A → B) (l : List A) (i : ℕ) (d : A) (z : B) → i < length l → get_or (each f l) i z ≡ f (get_or l i d)
get_or-each f [] i d z h = absurd (omega arith)
get_or-each f (x ∷ l) zero d z h = refl
get_or-each f (x ∷ l) (suc i) d z h = get_or-each f l i d z (omega arith)

pub in-each : {A B : Type 0} (g : A → B) (l : List A) (y : B) → In y (each g l) → (x : A) × In x l × (y ≡ g x)
in-each g [] y h = absurd h
in-each g (x ∷ l) y (inl e) = (x, inl refl, e)
in-each g (x ∷ l) y (inr h) = let t = in-each g l y h in (t.0, inr t.1, t.2)

pub each_in : {A B : Type 0} (g : A → B) (l : List A) (x : A) → In x l → In (g x) (each g l)
each_in g [] x h = h
each_in g (y ∷ l) x (inl e) = inl (ap g e)
each_in g (y ∷ l) x (inr h) = inr (each_in g l x h)

pub each_take : {A B : Type 0} (g : A → B) (k : ℕ) (l : List A) → each g (take k l) ≡ take k (each g l)
each_take g zero l = refl
each_take g (suc k) [] = refl
each_take {A} {B} g (suc k) (x ∷ l) = ap {B = List B} (λ r. g x ∷ r) (each_take g k l)

-- maps that agree on the members of a list
pub each_same : {A B : Type 0} (f g : A → B) (l : List A) → ((x : A) → In x l → f x ≡ g x) → each f l ≡ each g l
each_same f g [] h = refl
each_same f g (x ∷ l) h = rw (h x (inl refl), each_same f g l (λ y k. h y (inr k)))

pub each_append : {A B : Type 0} (f : A → B) (s t : List A) → each f (s ++ t) ≡ each f s ++ each f t
each_append f [] t = refl
each_append f (x ∷ s) t = rw (each_append f s t)

-- one map after the other
pub each-each : {A B C : Type 0} (f : B → C) (g : A → B) (l : List A) → each f (each g l) ≡ each (λ x. f (g x)) l
each-each f g [] = refl
each-each f g (x ∷ l) = rw (each-each f g l)

-- ---- each_list

pub in-each_list : {A B : Type 0} (f : A → List B) (l : List A) (y : B) → In y (each_list f l) → (x : A) × In x l × In y (f x)
in-each_list f [] y h = absurd h
in-each_list f (x ∷ l) y h = ⊎_elim (λ k. (x, inl refl, k)) (λ k. let r = in-each_list f l y k in (r.0, inr r.1, r.2)) (in_either y (f x) (each_list f l) h)

-- and back
pub each_list-in : {A B : Type 0} (f : A → List B) (l : List A) (x : A) (y : B) → In x l → In y (f x) → In y (each_list f l)
each_list-in f [] x y h k = absurd h
each_list-in f (z ∷ l) x y (inl e) k = in_left y (f z) (each_list f l) (rw e at k)
each_list-in f (z ∷ l) x y (inr h) k = in_right y (f z) (each_list f l) (each_list-in f l x y h k)

pub each_list_same : {A B : Type 0} (f g : A → List B) (l : List A) → ((x : A) → In x l → f x ≡ g x) → each_list f l ≡ each_list g l
each_list_same f g [] h = refl
each_list_same f g (x ∷ l) h = rw (h x (inl refl), each_list_same f g l (λ y k. h y (inr k)))

pub each_list-append : {A B : Type 0} (f : A → List B) (s u : List A) → each_list f (s ++ u) ≡ each_list f s ++ each_list f u
each_list-append f [] u = refl
each_list-append f (x ∷ s) u = rw (each_list-append f s u) (sym (append_assoc (f x) (each_list f s) (each_list f u)))

pub each_list-each : {A B C : Type 0} (f : B → List C) (g : A → B) (l : List A) → each_list f (each g l) ≡ each_list (λ x. f (g x)) l
each_list-each f g [] = refl
each_list-each f g (x ∷ l) = rw (each_list-each f g l)

pub each-each_list : {A B C : Type 0} (f : B → C) (g : A → List B) (l : List A) → each f (each_list g l) ≡ each_list (λ x. each f (g x)) l
each-each_list f g [] = refl
each-each_list f g (x ∷ l) = rw (each_append f (g x) (each_list g l), each-each_list f g l)

pub keep-each_list : {A B : Type 0} (f : B → Bool) (g : A → List B) (l : List A) → keep f (each_list g l) ≡ each_list (λ x. keep f (g x)) l
keep-each_list f g [] = refl
keep-each_list f g (x ∷ l) = rw (keep_append f (g x) (each_list g l), keep-each_list f g l)

-- members that give nothing may be left out
pub each_list-keep : {A B : Type 0} (f : A → List B) (g : A → Bool) (l : List A) → ((x : A) → g x ≡ false → f x ≡ []) → each_list f l ≡ each_list f (keep g l)
each_list-keep f g [] h = refl
each_list-keep f g (x ∷ l) h =
    let r = each_list-keep f g l h in
    cases (g x) (λ q. simp (q, r)) (λ q. simp (q, h x q, r))
