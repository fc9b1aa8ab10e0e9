-- The texts that names in order make are a tree: strictly in order, and closed under beginnings.
-- And the number of a text in a list that is strictly in order. Assumes nothing.
use mathlib.Core.Path.{◌≡◌, refl, sym}
use mathlib.Core.Logic.{◌⊎◌, inl, inr, ⊎_elim}
use mathlib.Core.Bool.{true, false, not, false≢true}
use mathlib.Core.List.{List, [], ◌∷◌}
use Prim.Native.Nat.{ℕ, zero, suc, ◌+◌, ◌≤◌, ◌<◌}
use native.Mathlib.Omega.{arith}
use lib.ListN.{length, take, get_or, length-take}
use lib.Seq.{take-take}
use borrow.Table.Steps.{cases}
use Rattle.base.specs.Lists.{from_on, each, begins, same_list, In}
use Rattle.base.proofs.Tests.{never}
use Rattle.base.proofs.Members.{in_left, in_right, in_either, get_or_in, in-each}
use Rattle.base.proofs.Runs.{in_from}
use Rattle.base.proofs.Begins.{begins-trans, take_begins, same_true, same_refl}
use Rattle.base.proofs.Pairs.{pairs_append, pairs_keep, pairs_at, pairs_weaken, distinct_once}
use Rattle.rules.specs.Names.{in_order}
use Rattle.rules.specs.Indexes.{beginnings_of, number_in}
use Rattle.rules.proofs.Orders.{StrictlyRising, order_refl, begins_order, begins-above, begins_strict, strict_after}
use Rattle.meaning.specs.Trees.{Sorted, Tree, fresh, trie_from, trie_of, Chain}
use Rattle.meaning.proofs.Fresh.{in-fresh, fresh_in}

-- `x` strictly before `y`
abbrev Before : List ℕ → List ℕ → Type 0
Before x y = in_order y x ≡ false

pub sorted-at : (B : List (List ℕ)) → Sorted B → StrictlyRising (λ i. get_or B i []) (length B)
sorted-at B s = pairs_at Before [] B s

-- two places with one text are one place
pub sorted_once : (B : List (List ℕ)) → Sorted B → (i k : ℕ) → i < length B → k < length B → get_or B i [] ≡ get_or B k [] → i ≡ k
sorted_once B s =
    distinct_once (λ x. x) [] B
    (pairs_weaken Before (λ x y. x ≡ y → ⊥) B (λ x y u v h e. never _ (order_refl y) (rw e at h)) s)

-- ---- the new beginnings of one name

sorted_takes : (n : List ℕ) (a k : ℕ) → a + k ≤ suc (length n) → Sorted (each (λ l. take l n) (from_on a k))
sorted_takes n a zero h = tt
sorted_takes n a (suc k) h = (
  (λ y u.
      let t = in-each (λ l. take l n) (from_on (suc a) k) y u in
      let r = in_from (suc a) k t.0 t.1 in
      let b : begins (take a n) (take t.0 n) ≡ true = rw (take-take a t.0 n (omega arith)) at (take_begins a (take t.0 n)) in
      rw t.2 (begins_strict (take a n) (take t.0 n) b (simp length-take (omega arith)))),
  sorted_takes n (suc a) k (omega arith),
)

sorted-fresh : (m n : List ℕ) → Sorted (fresh m n)
sorted-fresh m n = pairs_keep Before (λ p. not (begins p m)) (beginnings_of n) (sorted_takes n 1 (length n) (omega arith))

-- ---- what names in order add after a name

trie_above : (m : List ℕ) (ns : List (List ℕ)) → Chain m ns → (x : List ℕ) → In x (trie_from m ns) → in_order x m ≡ false
trie_above m [] c x h = absurd h
trie_above m (n ∷ ns) c x h =
    ⊎_elim
    (λ u. let t = in-fresh m n x u in begins-above m n x c.0 t.0 t.1)
    (λ u. strict_after m n x c.0 (trie_above n ns c.1 x u))
    (in_either x (fresh m n) (trie_from n ns) h)

trie_sorted : (m : List ℕ) (ns : List (List ℕ)) → Chain m ns → Sorted (trie_from m ns)
trie_sorted m [] c = tt
trie_sorted m (n ∷ ns) c =
    pairs_append Before (fresh m n) (trie_from n ns) (sorted-fresh m n) (trie_sorted n ns c.1)
    (λ x y u v. strict_after x n y (begins_order x n (in-fresh m n x u).0) (trie_above n ns c.1 y v))

-- a member begins one of the names
abbrev pub Beginning : List ℕ → List (List ℕ) → Type 0
Beginning p ns = (n : List ℕ) × In n ns × (begins p n ≡ true)

trie_member : (m : List ℕ) (ns : List (List ℕ)) (p : List ℕ) → In p (trie_from m ns) → Beginning p ns
trie_member m [] p h = absurd h
trie_member m (n ∷ ns) p h =
    ⊎_elim
    (λ u. (n, inl refl, (in-fresh m n p u).0))
    (λ u. let t = trie_member n ns p u in (t.0, inr t.1, t.2))
    (in_either p (fresh m n) (trie_from n ns) h)

-- a beginning of one of the names begins m or is a member
trie_every : (m : List ℕ) (ns : List (List ℕ)) (n p : List ℕ) → In n ns → begins p n ≡ true → 1 ≤ length p → (begins p m ≡ true) ⊎ In p (trie_from m ns)
trie_every m [] n p h b l = absurd h
trie_every m (x ∷ ns) n p h b l =
    cases (begins p m) inl (λ u.
    let new : begins p x ≡ true → In p (trie_from m (x ∷ ns)) = λ k. in_left p (fresh m x) (trie_from x ns) (fresh_in m x p k u l) in
    let late : In n ns → In p (trie_from m (x ∷ ns)) = λ k. ⊎_elim new (in_right p (fresh m x) (trie_from x ns)) (trie_every x ns n p k b l) in
    inr (⊎_elim (λ e. new (rw e at b)) late h))

-- ---- the whole, with the empty beginning

module _ (ns : List (List ℕ)) where
  pub tree_member : (p : List ℕ) → In p (trie_of ns) → (p ≡ []) ⊎ Beginning p ns
  tree_member p (inl e) = inl e
  tree_member p (inr h) = inr (trie_member [] ns p h)

  pub tree-every : (n p : List ℕ) → In n ns → begins p n ≡ true → In p (trie_of ns)
  tree-every n [] h b = inl refl
  tree-every n (a ∷ p) h b = ⊎_elim (λ u. absurd (false≢true u)) (λ u. inr u) (trie_every [] ns n (a ∷ p) h b (omega arith))

  tree-closed : (p q : List ℕ) → In q (trie_of ns) → begins p q ≡ true → In p (trie_of ns)
  tree-closed [] q h b = inl refl
  tree-closed (a ∷ p) q h b =
      ⊎_elim
      (λ (e : q ≡ []). absurd (false≢true (rw e at b)))
      (λ (t : Beginning q ns). tree-every t.0 (a ∷ p) t.1 (begins-trans (a ∷ p) q t.0 b t.2))
      (tree_member q h)

  pub tree_of : Chain [] ns → Tree (trie_of ns)
  tree_of c = record { sorted = (trie_above [] ns c, trie_sorted [] ns c); closed = tree-closed }

-- ---- the number of a text

pub number_in_lem : (p : List ℕ) (B : List (List ℕ)) → In p B → (number_in p B < length B) × (get_or B (number_in p B) [] ≡ p)
number_in_lem p [] h = absurd h
number_in_lem p (x ∷ B) h =
    cases (same_list p x)
    (λ q. rw q (omega arith, sym (same_true p x q)))
    (λ q. ⊎_elim (λ e. never _ (same_refl x) (rw e at q)) (λ k. let t = number_in_lem p B k in rw q (omega arith, t.1)) h)

pub number_out : (p : List ℕ) (B : List (List ℕ)) → (In p B → ⊥) → number_in p B ≡ length B
number_out p [] h = refl
number_out p (x ∷ B) h =
    cases (same_list p x)
    (λ q. absurd (h (inl (same_true p x q))))
    (λ q. rw (q, number_out p B (λ k. h (inr k))))

pub number_at : (B : List (List ℕ)) → Sorted B → (j : ℕ) → j < length B → number_in (get_or B j []) B ≡ j
number_at B s j h = let t = number_in_lem (get_or B j []) B (get_or_in [] B j h) in sorted_once B s (number_in (get_or B j []) B) j t.0 h t.1
