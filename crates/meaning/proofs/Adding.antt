-- For a pass over the names in turn: which nodes a name adds, their numbers, their stands, and where their subtrees end.
-- Assumes nothing.
use mathlib.Core.Path.{◌≡◌, refl, sym, ap, ◌∙◌, subst₂}
use mathlib.Core.Logic.{⊎_elim}
use mathlib.Core.Bool.{true, false}
use mathlib.Core.List.{List, [], ◌∷◌, ◌++◌}
use Prim.Native.Nat.{ℕ, zero, suc, ◌+◌, ◌-◌, ◌≤◌, ◌<◌}
use native.Mathlib.Omega.{arith}
use native.Mathlib.Nat.{add-zero}
use native.Mathlib.Numerals.{add-one}
use lib.ListN.{length, take, get_or, length-append, get_or-append}
use lib.Seq.{length-take-le, get_or-append-add, take-length, take-take, take-suc}
use Rattle.base.specs.Lists.{from_on, up_to, each, each_list, first_of, begins}
use Rattle.base.proofs.Tests.{never, le_or_lt}
use Rattle.base.proofs.Members.{length-each, each_list-append}
use Rattle.base.proofs.Runs.{length_from, up_to_split, each_list-suc, get_or-each_from}
use Rattle.base.proofs.Begins.{begins-trans, take_begins, shared_begins, past_shared, shared_length-sym}
use Rattle.rules.specs.Tables.{Table, stands, name_of, Ordered}
use Rattle.rules.specs.Questions.{under}
use Rattle.rules.specs.Indexes.{new_at, beginnings, node_count, number_in, last_byte, but_last, past_of}
use Rattle.rules.proofs.Orders.{order_antisym, begins_order}
use Rattle.meaning.specs.Trees.{text_of}
use Rattle.meaning.specs.Adding.{name_before, shared_at, nodes_before}
use Rattle.meaning.proofs.Fresh.{fresh_takes}
use Rattle.meaning.proofs.Tree.{number_in_lem, number_at}
use Rattle.meaning.proofs.Children.{subtree_in, subtree_only, past_bounds, last_snoc}
use Rattle.meaning.proofs.Tables.{new_fresh, beginnings-tree, beginnings_of, under_from, under_only}

-- ---- the nodes that name i adds: its beginnings longer than what it shares, in a row

module _ (t : Table) where
  pub new_takes : (i : ℕ) → new_at t i ≡ each (λ l. take l (name_of t i)) (from_on (suc (shared_at t i)) (length (name_of t i) - shared_at t i))
  new_takes i = new_fresh t i ∙ fresh_takes (name_before t i) (name_of t i)

  new_length : (i : ℕ) → length (new_at t i) ≡ length (name_of t i) - shared_at t i
  new_length i = ap length (new_takes i) ∙ simp (length-each, length_from)

  new_split : (i : ℕ) → i < stands t → beginnings t ≡ ([] ∷ each_list (new_at t) (up_to i)) ++ (new_at t i ++ each_list (new_at t) (from_on (suc i) (stands t - suc i)))
  unfolding beginnings
  new_split i h =
      ap (λ (l : List (List ℕ)). [] ∷ l)
      (ap (each_list (new_at t)) (up_to_split i (stands t) h) ∙ each_list-append (new_at t) (up_to i) (i ∷ from_on (suc i) (stands t - suc i)))

  pub nodes_step : (i : ℕ) → nodes_before t (suc i) ≡ nodes_before t i + (length (name_of t i) - shared_at t i)
  nodes_step i = omega (arith, ap length (each_list-suc (new_at t) i), length-append (each_list (new_at t) (up_to i)) (new_at t i), new_length i)

  pub nodes_all : nodes_before t (stands t) ≡ node_count t
  unfolding beginnings
  nodes_all = refl

  pub nodes_fit : (i : ℕ) → i < stands t → nodes_before t (suc i) ≤ node_count t
  nodes_fit i h =
      let r = each_list (new_at t) (from_on (suc i) (stands t - suc i)) in
      omega (arith, ap length (new_split i h), length-append ([] ∷ each_list (new_at t) (up_to i)) (new_at t i ++ r), length-append (new_at t i) r, nodes_step i, new_length i)

  -- the k-th of them
  node_text : (i k : ℕ) → i < stands t → k < length (name_of t i) - shared_at t i → text_of t (nodes_before t i + k) ≡ take (suc (shared_at t i) + k) (name_of t i)
  node_text i k h l =
      let r = each_list (new_at t) (from_on (suc i) (stands t - suc i)) in
      ap (λ (B : List (List ℕ)). get_or B (nodes_before t i + k) []) (new_split i h)
      ∙ get_or-append-add ([] ∷ each_list (new_at t) (up_to i)) (new_at t i ++ r) k []
      ∙ get_or-append (new_at t i) r [] k (omega (arith, new_length i))
      ∙ ap (λ (B : List (List ℕ)). get_or B k []) (new_takes i)
      ∙ get_or-each_from (λ l. take l (name_of t i)) (suc (shared_at t i)) (length (name_of t i) - shared_at t i) k [] l

-- ---- the last byte of a text, and the text without it

pub last_take : (n : List ℕ) (l : ℕ) → l < length n → last_byte (take (suc l) n) ≡ get_or n l 0
last_take n l h = rw (take-suc n l 0 h) (last_snoc (take l n) (get_or n l 0))

pub but_last_take : (n : List ℕ) (l : ℕ) → l < length n → but_last (take (suc l) n) ≡ take l n
but_last_take n l h =
    let e : length (take (suc l) n) - 1 ≡ l = omega (arith, length-take-le (suc l) n h) in
    ap (λ (k : ℕ). take k (take (suc l) n)) e ∙ take-take l (suc l) n (omega arith)

module _ (t : Table) (o : Ordered t) where
  -- ---- numbers of the nodes on the path of name i that name i adds

  pub node_number : (i l : ℕ) → i < stands t → shared_at t i < l → l ≤ length (name_of t i) → number_in (take l (name_of t i)) (beginnings t) ≡ nodes_before t i + (l - suc (shared_at t i))
  node_number i l h u v =
      let k = l - suc (shared_at t i) in
      let e : suc (shared_at t i) + k ≡ l = omega arith in
      let x : text_of t (nodes_before t i + k) ≡ take l (name_of t i) = node_text t i k h (omega arith) ∙ ap (λ (l : ℕ). take l (name_of t i)) e in
      ap (λ (p : List ℕ). number_in p (beginnings t)) (sym x)
      ∙ number_at (beginnings t) (beginnings-tree t o).sorted (nodes_before t i + k) (omega (arith, nodes_fit t i h, nodes_step t i))

  -- ---- the stands under a node of name i's path

  -- the first is i, where name i adds the node
  pub first_stand : (i l : ℕ) → i < stands t → shared_at t i < l → l ≤ length (name_of t i) → first_of (under t (take l (name_of t i))) ≡ i
  first_stand zero l h u v = omega (arith, under_from t o (take l (name_of t 0)) 0 h (take_begins l (name_of t 0)))
  first_stand (suc i) l h u v =
      let p = take l (name_of t (suc i)) in
      let r = under_from t o p (suc i) h (take_begins l (name_of t (suc i))) in
      ⊎_elim
      (λ (q : first_of (under t p) ≤ i). never _ (under_only t o p i q (omega arith)).1 (past_shared (name_of t i) (name_of t (suc i)) l u v))
      (λ (q : i < first_of (under t p)). omega arith)
      (le_or_lt (first_of (under t p)) i)

  -- a node of name i's path that the next name does not share is not on the next name's path
  off_next : (i l : ℕ) → shared_at t (suc i) < l → l ≤ length (name_of t i) → begins (take l (name_of t i)) (name_of t (suc i)) ≡ false
  off_next i l h v = past_shared (name_of t (suc i)) (name_of t i) l (omega (arith, shared_length-sym (name_of t i) (name_of t (suc i)))) v

  -- the last is i, where the next name does not go through the node
  pub past-stand : (i l : ℕ) → i < stands t → l ≤ length (name_of t i) → (suc i < stands t → shared_at t (suc i) < l)
      → first_of (under t (take l (name_of t i))) + length (under t (take l (name_of t i))) ≡ suc i
  past-stand i l h v c =
      let p = take l (name_of t i) in
      let past = first_of (under t p) + length (under t p) in
      let r = under_from t o p i h (take_begins l (name_of t i)) in
      ⊎_elim
      (λ (q : past ≤ suc i). omega arith)
      (λ (q : suc i < past). let s = under_only t o p (suc i) (omega arith) q in never _ s.1 (off_next i l (c s.0) v))
      (le_or_lt past (suc i))

  -- ---- where the nodes' subtrees end

  module _ (long : (i : ℕ) → i < stands t → 1 ≤ length (name_of t i)) where
    -- a name that adds nothing is the name before
    adds_none : (i : ℕ) → suc i < stands t → length (name_of t (suc i)) ≤ shared_at t (suc i) → name_of t (suc i) ≡ name_of t i
    adds_none i h u =
        let w = rw (take-length (name_of t (suc i))) at (shared_begins (name_of t i) (name_of t (suc i)) (length (name_of t (suc i))) u) in
        order_antisym (name_of t (suc i)) (name_of t i) (begins_order (name_of t (suc i)) (name_of t i) w) (rw add-one at (o i (omega arith)))

    last_added : (i : ℕ) → i < stands t → shared_at t i < length (name_of t i) → text_of t (nodes_before t (suc i) - 1) ≡ name_of t i
    last_added i h u =
        let k = length (name_of t i) - shared_at t i - 1 in
        let x : nodes_before t (suc i) - 1 ≡ nodes_before t i + k = omega (arith, nodes_step t i) in
        let y : suc (shared_at t i) + k ≡ length (name_of t i) = omega arith in
        ap (λ (m : ℕ). text_of t m) x ∙ node_text t i k h (omega arith) ∙ rw (y, take-length (name_of t i))

    -- the last of the nodes of the names up to i is name i
    last_node : (i : ℕ) → i < stands t → text_of t (nodes_before t (suc i) - 1) ≡ name_of t i
    last_node zero h = last_added 0 h (long 0 h)
    last_node (suc i) h =
        ⊎_elim
        (λ (u : length (name_of t (suc i)) ≤ shared_at t (suc i)).
        let x : nodes_before t (suc (suc i)) - 1 ≡ nodes_before t (suc i) - 1 = omega (arith, nodes_step t (suc i)) in
        ap (λ (m : ℕ). text_of t m) x ∙ last_node i (omega arith) ∙ sym (adds_none i h u))
        (λ (u : shared_at t (suc i) < length (name_of t (suc i))). last_added (suc i) h u)
        (le_or_lt (length (name_of t (suc i))) (shared_at t (suc i)))

    -- a node of name i's path that is not on the path of the next name ends with the nodes of the names up to i
    pub past-node : (i l : ℕ) → i < stands t → l ≤ length (name_of t i) → (suc i < stands t → shared_at t (suc i) < l)
        → past_of (beginnings t) (number_in (take l (name_of t i)) (beginnings t)) ≡ nodes_before t (suc i)
    past-node i l h v c =
        let B = beginnings t in
        let tree = beginnings-tree t o in
        let p = take l (name_of t i) in
        let at = number_in_lem p B (beginnings_of t i p h (take_begins l (name_of t i))) in
        -- the nodes of the names up to i
        let made = nodes_before t (suc i) in
        let past = past_of B (number_in p B) in
        let last : (number_in p B ≤ made - 1) × (made - 1 < past) =
        subtree_in B tree.sorted (number_in p B) at.0 (made - 1) (omega (arith, nodes_fit t i h))
        (subst₂ (λ (x y : List ℕ). begins x y ≡ true) (sym at.1) (sym (last_node i h)) (take_begins l (name_of t i))) in
        ⊎_elim
        (λ (q : past ≤ made). omega arith)
        (λ (q : made < past).
        ⊎_elim
        (λ (k : stands t ≤ suc i).
        let s : stands t ≡ suc i = omega arith in
        let r : length B ≡ made = sym (nodes_all t) ∙ ap (nodes_before t) s in
        absurd (omega (arith, past_bounds B tree.sorted (number_in p B) at.0)))
        (λ (k : suc i < stands t).
        ⊎_elim
        (λ (f : length (name_of t (suc i)) ≤ shared_at t (suc i)). absurd (omega (arith, ap length (adds_none i k f), c k)))
        -- the next node is of the next name, whose path p is not on
        (λ (f : shared_at t (suc i) < length (name_of t (suc i))).
        let m = suc (shared_at t (suc i)) + 0 in
        let x : get_or B made [] ≡ take m (name_of t (suc i)) = rw add-zero at (node_text t (suc i) 0 k (omega arith)) in
        let b = (subtree_only B tree.sorted (number_in p B) at.0 made (omega arith) q).1 in
        let y = subst₂ (λ (x y : List ℕ). begins x y ≡ true) at.1 x b in
        never _ (begins-trans p (take m (name_of t (suc i))) (name_of t (suc i)) y (take_begins m (name_of t (suc i)))) (off_next i l (c k) v))
        (le_or_lt (length (name_of t (suc i))) (shared_at t (suc i))))
        (le_or_lt (stands t) (suc i)))
        (le_or_lt past made)
