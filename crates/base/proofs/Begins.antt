-- Lists that begin with another, and the length that two lists share.
-- Sharing is the invariant of a loop that compares element by element. Assumes nothing.
use mathlib.Core.Path.{◌≡◌, refl, sym, ap, ◌∙◌}
use mathlib.Core.Logic.{◌⊎◌, inl, inr, ⊎_elim}
use mathlib.Core.Bool.{Bool, true, false, ◌&&◌, false≢true}
use mathlib.Core.List.{List, [], ◌∷◌, ◌++◌}
use Prim.Native.Nat.{ℕ, zero, suc, ◌+◌, ◌≤◌, ◌<◌, min}
use native.Mathlib.Numerals.{add-one}
use native.Mathlib.Omega.{arith}
use lib.Dec.{eqb, eqb-zero-suc, eqb-suc-suc}
use lib.ListN.{length, take, drop, get_or, drop_of_length-le, length-take, take-append-drop}
use lib.Seq.{drop-cons, take-take, take_all, take-length, get_or-take, length-take-le, ext_get_or}
use borrow.Table.Steps.{cases}
use borrow.Author.Tests.{eqb-true, eqb-false, eq-eqb, ne_eqb}
use Rattle.base.specs.Lists.{begins, same_list, shared_length, In}
use Rattle.base.proofs.Tests.{never, and_parts, le_or_lt}

pub begins_cases : (a b : ℕ) (p n : List ℕ) → begins (a ∷ p) (b ∷ n) ≡ true → (a ≡ b) × (begins p n ≡ true)
begins_cases a b p n e = let t = and_parts (eqb a b) (begins p n) e in (eqb-true a b t.0, t.1)

pub begins_same : (a b : ℕ) (p n : List ℕ) → a ≡ b → begins p n ≡ true → begins (a ∷ p) (b ∷ n) ≡ true
begins_same a b p n e h = rw (eq-eqb a b e, h)

pub begins-append : (p q : List ℕ) → begins p (p ++ q) ≡ true
begins-append [] q = refl
begins-append (a ∷ p) q = begins_same a a p (p ++ q) refl (begins-append p q)

-- a beginning is as many of the first elements as it has, and back: most of what follows is known of `take`
pub begins_is_take : (p n : List ℕ) → begins p n ≡ true → p ≡ take (length p) n
begins_is_take [] n h = refl
begins_is_take (a ∷ p) [] h = absurd (false≢true h)
begins_is_take (a ∷ p) (b ∷ n) h = let t = begins_cases a b p n h in cc (t.0, begins_is_take p n t.1)

pub take_begins : (l : ℕ) (n : List ℕ) → begins (take l n) n ≡ true
take_begins l n = rw take-append-drop at (begins-append (take l n) (drop l n))

is_begun : (p n : List ℕ) → p ≡ take (length p) n → begins p n ≡ true
is_begun p n e = rw e (take_begins (length p) n)

pub begins-refl : (p : List ℕ) → begins p p ≡ true
begins-refl p = is_begun p p (sym (take-length p))

pub begins-length : (p n : List ℕ) → begins p n ≡ true → length p ≤ length n
begins-length p n h = omega (arith, ap length (begins_is_take p n h) ∙ length-take (length p) n)

pub begins-part : (p n : List ℕ) (k : ℕ) → begins p n ≡ true → k ≤ length p → take k n ≡ take k p
begins-part p n k h l = sym (ap (take k) (begins_is_take p n h) ∙ take-take k (length p) n l)

pub begins-trans : (p q n : List ℕ) → begins p q ≡ true → begins q n ≡ true → begins p n ≡ true
begins-trans p q n h k = is_begun p n (begins_is_take p q h ∙ sym (begins-part q n (length p) k (begins-length p q h)))

-- of two beginnings of one list the shorter begins the longer
pub begins_both : (p q n : List ℕ) → begins p n ≡ true → begins q n ≡ true → length p ≤ length q → begins p q ≡ true
begins_both p q n h k l = is_begun p q (begins_is_take p n h ∙ begins-part q n (length p) k l)

-- a beginning as long as the whole is the whole
pub begins_whole : (p q : List ℕ) → begins p q ≡ true → length q ≤ length p → p ≡ q
begins_whole p q h l = begins_is_take p q h ∙ take_all (length p) q l

-- whether n begins with p, its first elements tell, as many as p has
pub begins_first : (p n : List ℕ) → begins p (take (length p) n) ≡ begins p n
begins_first [] n = refl
begins_first (a ∷ p) [] = refl
begins_first (a ∷ p) (b ∷ n) = ap (λ (r : Bool). eqb a b && r) (begins_first p n)

-- element by element, and back
pub begins-at : (p n : List ℕ) (i d : ℕ) → begins p n ≡ true → i < length p → get_or n i d ≡ get_or p i d
begins-at p n i d h l = sym (ap (λ m. get_or m i d) (begins_is_take p n h) ∙ get_or-take (length p) n i d l)

pub begins_of : (p n : List ℕ) → length p ≤ length n → ((i : ℕ) → i < length p → get_or p i 0 ≡ get_or n i 0) → begins p n ≡ true
begins_of p n h e = is_begun p n (ext_get_or 0 p _ (sym (length-take-le (length p) n h)) (λ i l. e i l ∙ sym (get_or-take (length p) n i 0 l)))

-- a list that begins with two lists, one after the other
pub begins_parts : (p q n : List ℕ) → begins (p ++ q) n ≡ begins p n && begins q (drop (length p) n)
begins_parts [] q n = refl
begins_parts (a ∷ p) q [] = refl
begins_parts (a ∷ p) q (b ∷ n) = cases (eqb a b) (λ e. rw e (begins_parts p q n)) (λ e. rw e)

-- ---- the same list, by a test

pub same_true : (p q : List ℕ) → same_list p q ≡ true → p ≡ q
same_true [] [] h = refl
same_true [] (b ∷ q) h = absurd (false≢true h)
same_true (a ∷ p) [] h = absurd (false≢true h)
same_true (a ∷ p) (b ∷ q) h = let t = and_parts (eqb a b) (same_list p q) h in cc (eqb-true a b t.0, same_true p q t.1)

pub same_refl : (p : List ℕ) → same_list p p ≡ true
same_refl [] = refl
same_refl (a ∷ p) = rw (eq-eqb a a refl, same_refl p)

-- a list is a member of a list of lists, or it is not
pub in_or_out : (p : List ℕ) (B : List (List ℕ)) → In p B ⊎ (In p B → ⊥)
in_or_out p [] = inr (λ h. h)
in_or_out p (q ∷ B) =
    cases (same_list p q)
    (λ e. inl (inl (same_true p q e)))
    (λ e. ⊎_elim (λ k. inl (inr k)) (λ h. inr (⊎_elim (λ s. never _ (rw s (same_refl q)) e) h)) (in_or_out p B))

-- ---- the length that two lists share

pub record Sharing (a b : List ℕ) (i : ℕ) : Type 0 where
  pub within : i ≤ length a
  pub within_other : i ≤ length b
  pub rest : shared_length a b ≡ i + shared_length (drop i a) (drop i b)

module _ (a b : List ℕ) where
  pub begin : Sharing a b 0
  begin = record { within = omega arith; within_other = omega arith; rest = omega arith }

  pub step : (i : ℕ) → i < length a → i < length b → get_or a i 0 ≡ get_or b i 0 → Sharing a b i → Sharing a b (i + 1)
  step i h k e s =
      let more : shared_length (drop i a) (drop i b) ≡ suc (shared_length (drop (i + 1) a) (drop (i + 1) b)) =
      rw (drop-cons a i 0 h, drop-cons b i 0 k, eq-eqb _ _ e, add-one) in
      record { within = omega arith; within_other = omega arith; rest = omega arith }

  ends : (i : ℕ) → Sharing a b i → shared_length (drop i a) (drop i b) ≡ 0 → i ≡ shared_length a b
  ends i s none = omega (arith, s.rest)

  pub differ : (i : ℕ) → i < length a → i < length b → (get_or a i 0 ≡ get_or b i 0 → ⊥) → Sharing a b i → i ≡ shared_length a b
  differ i h k e s = ends i s (rw (drop-cons a i 0 h, drop-cons b i 0 k, ne_eqb _ _ e))

  pub ended : (i : ℕ) → length a ≤ i → Sharing a b i → i ≡ shared_length a b
  ended i h s = ends i s (rw (drop_of_length-le a h))

  pub ended_other : (i : ℕ) → i < length a → length b ≤ i → Sharing a b i → i ≡ shared_length a b
  ended_other i h k s = ends i s (rw (drop-cons a i 0 h, drop_of_length-le b k))

  -- past the end of the shorter one
  pub ended_shorter : (i most : ℕ) → most ≡ min (length a) (length b) → most ≤ i → Sharing a b i → most ≡ shared_length a b
  ended_shorter i most m h s =
      let same : most ≡ i = grind (arith, m, h, s.within, s.within_other) in
      same
      ∙ ⊎_elim
      (λ (long : length a ≤ i). ended i long s)
      (λ (short : i < length a). let k : length b ≤ i = grind (arith, m, h, short) in ended_other i short k s)
      (le_or_lt (length a) i)

-- a list begins with p where all of p is shared
pub begins_shared : (p n : List ℕ) → begins p n ≡ eqb (shared_length p n) (length p)
begins_shared [] n = refl
begins_shared (x ∷ p) [] = sym (eqb-zero-suc (length p))
begins_shared (x ∷ p) (y ∷ n) =
    cases (eqb x y) (λ e. rw e (begins_shared p n ∙ sym (eqb-suc-suc (shared_length p n) (length p)))) (λ e. rw e (sym (eqb-zero-suc (length p))))

pub shared_length-sym : (m n : List ℕ) → shared_length m n ≡ shared_length n m
shared_length-sym [] [] = refl
shared_length-sym [] (b ∷ n) = refl
shared_length-sym (a ∷ m) [] = refl
shared_length-sym (a ∷ m) (b ∷ n) =
    cases (eqb a b)
    (λ q. rw (q, eq-eqb b a (sym (eqb-true a b q)), shared_length-sym m n))
    (λ q. rw (q, ne_eqb b a (λ e. eqb-false a b q (sym e))))

pub shared_le : (a b : List ℕ) → shared_length a b ≤ length a
shared_le [] b = omega arith
shared_le (x ∷ a) [] = omega arith
shared_le (x ∷ a) (y ∷ b) =
    cases (eqb x y) (λ e. rw e (omega (arith, shared_le a b))) (λ e. rw e (omega arith))

pub shared_le_other : (a b : List ℕ) → shared_length a b ≤ length b
shared_le_other a b = rw (shared_length-sym a b) (shared_le b a)

-- what two lists share is the same of both
pub shared_length-take : (m n : List ℕ) (l : ℕ) → l ≤ shared_length m n → take l m ≡ take l n
shared_length-take m n zero h = refl
shared_length-take [] n (suc l) h = absurd (omega arith)
shared_length-take (a ∷ m) [] (suc l) h = absurd (omega arith)
shared_length-take (a ∷ m) (b ∷ n) (suc l) h =
    cases (eqb a b)
    (λ q. cc (eqb-true a b q, shared_length-take m n l (omega (arith, rw q at h))))
    (λ q. absurd (omega (arith, rw q at h)))

-- so a beginning of n begins m as far as the two share it
pub shared_begins : (m n : List ℕ) (l : ℕ) → l ≤ shared_length m n → begins (take l n) m ≡ true
shared_begins m n l h = rw (shared_length-take m n l h) at (take_begins l m)

-- and no further
pub past_shared : (m n : List ℕ) (l : ℕ) → shared_length m n < l → l ≤ length n → begins (take l n) m ≡ false
past_shared m n zero h k = absurd (omega arith)
past_shared m [] (suc l) h k = absurd (omega arith)
past_shared [] (b ∷ n) (suc l) h k = refl
past_shared (a ∷ m) (b ∷ n) (suc l) h k =
    cases (eqb a b)
    (λ q. rw (eq-eqb b a (sym (eqb-true a b q))) (past_shared m n l (omega (arith, rw q at h)) (omega arith)))
    (λ q. rw (ne_eqb b a (λ e. eqb-false a b q (sym e))))
