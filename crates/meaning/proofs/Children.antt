-- In a tree of texts a node's subtree is one run that starts with the node; what follows the node in it, and what
-- follows each child's subtree, is a child again. Children have rising last bytes. Assumes nothing.
use mathlib.Core.Path.{◌≡◌, refl, sym, ap, ap₂, ◌∙◌}
use mathlib.Core.Logic.{⊎_elim}
use mathlib.Core.Bool.{true, false, true≢false}
use mathlib.Core.List.{List, [], ◌∷◌, ◌++◌}
use Prim.Native.Nat.{ℕ, zero, suc, ◌+◌, ◌-◌, ◌≤◌, ◌<◌}
use native.Mathlib.Omega.{arith}
use native.Mathlib.Nat.{eq-or-lt_of_le, lt_of_not-le}
use lib.ListN.{length, take, get_or, length-append}
use lib.Seq.{length-take-le, take_all, take-suc}
use Rattle.base.specs.Lists.{keep, begins, In}
use Rattle.base.proofs.Tests.{never, le_or_lt}
use Rattle.base.proofs.Members.{get_or_in, in-at, keep-each, length-each}
use Rattle.base.proofs.Runs.{each-get_or}
use Rattle.base.proofs.Begins.{begins-trans, begins_both, begins_whole, begins-append, take_begins, begins_is_take}
use Rattle.rules.specs.Names.{in_order}
use Rattle.rules.specs.Indexes.{number_in, last_byte, but_last, past_of}
use Rattle.rules.proofs.Orders.{order_by, order_append}
use Rattle.meaning.specs.Trees.{Sorted, Tree, Child, OnWay}
use Rattle.meaning.specs.Trees as trees
use Rattle.meaning.proofs.Blocks.{block_of, block_from, block_begins, block_past}
use Rattle.meaning.proofs.Tree.{sorted-at, sorted_once, number_in_lem, number_at}

-- ---- subtrees

length_block : (B : List (List ℕ)) (p : List ℕ) → length (keep (begins p) B) ≡ length (block_of (λ i. get_or B i []) (length B) p)
length_block B p =
    ap (λ (l : List (List ℕ)). length (keep (begins p) l)) (each-get_or [] B) ∙ simp (keep-each, length-each)

module _ (B : List (List ℕ)) (s : Sorted B) (j : ℕ) (lt : j < length B) where
  -- what begins with j's text is in the run from j to its past
  pub subtree_in : (i : ℕ) → i < length B → begins (get_or B j []) (get_or B i []) ≡ true → (j ≤ i) × (i < past_of B j)
  subtree_in i h b = rw (length_block B (get_or B j [])) (block_from (λ i. get_or B i []) (length B) (sorted-at B s) j lt i h b)

  -- and nothing else is
  pub subtree_only : (i : ℕ) → j ≤ i → i < past_of B j → (i < length B) × (begins (get_or B j []) (get_or B i []) ≡ true)
  subtree_only i u v = block_begins (λ i. get_or B i []) (length B) (sorted-at B s) j lt i u (rw (length_block B (get_or B j [])) at v)

  pub past_bounds : (j < past_of B j) × (past_of B j ≤ length B)
  past_bounds = rw (length_block B (get_or B j [])) (block_past (λ i. get_or B i []) (length B) (sorted-at B s) j lt)

-- ---- children

module _ (B : List (List ℕ)) (t : Tree B) (j : ℕ) (lt : j < length B) where
  -- two children of which one begins the other are one
  child_one : (c k : ℕ) → Child B j c → Child B j k → begins (get_or B c []) (get_or B k []) ≡ true → c ≡ k
  child_one c k x y b = sorted_once B t.sorted c k x.inside y.inside (begins_whole (get_or B c []) (get_or B k []) b (omega arith))

  pub child-after : (c : ℕ) → Child B j c → (j < c) × (c < past_of B j)
  child-after c x =
      let r = subtree_in B t.sorted j lt c x.inside x.under in
      (⊎_elim (λ (e : j ≡ c). absurd (omega (arith, ap (λ k. length (get_or B k [])) e, x.longer))) (λ (h : j < c). h) (eq-or-lt_of_le r.0), r.1)

  pub child-past : (c : ℕ) → Child B j c → (c < past_of B c) × (past_of B c ≤ past_of B j)
  child-past c x =
      let u = past_bounds B t.sorted c x.inside in
      let v = subtree_only B t.sorted c x.inside (past_of B c - 1) (omega arith) (omega arith) in
      let b = begins-trans (get_or B j []) (get_or B c []) (get_or B (past_of B c - 1) []) x.under v.1 in
      let w = subtree_in B t.sorted j lt (past_of B c - 1) v.0 b in
      (u.0, omega arith)

  -- no child lies within another's subtree
  pub child_gap : (c k : ℕ) → Child B j c → Child B j k → c < k → past_of B c ≤ k
  child_gap c k x y h =
      let no : suc k ≤ past_of B c → ⊥ = λ q. let e : c ≡ k = child_one c k x y (subtree_only B t.sorted c x.inside k (omega arith) q).1 in omega arith in
      omega (arith, lt_of_not-le no)

  -- over each node of j's subtree but j itself there is a child of j
  child-over : (i : ℕ) → j < i → i < past_of B j → (c : ℕ) × Child B j c × (c ≤ i) × (i < past_of B c)
  child-over i u v =
      let p = get_or B j [] in
      let x = get_or B i [] in
      let r = subtree_only B t.sorted j lt i (omega arith) v in
      let longer = lt_of_not-le (λ q. let e : j ≡ i = sorted_once B t.sorted j i lt r.0 (begins_whole p x r.1 q) in omega arith) in
      let begun = take_begins (suc (length p)) x in
      let size = length-take-le (suc (length p)) x longer in
      let s = in-at [] (take (suc (length p)) x) B (t.closed (take (suc (length p)) x) x (get_or_in [] B i r.0) begun) in
      let w = subtree_in B t.sorted s.0 s.1 i r.0 (rw s.2 begun) in
      let b = begins_both p (take (suc (length p)) x) x r.1 begun (omega (arith, size)) in
      (s.0, record { inside = s.1; longer = rw s.2 size; under = rw s.2 b }, w.0, w.1)

  -- where j's subtree has more than j, the next node is a child
  pub child_first : suc j < past_of B j → Child B j (suc j)
  child_first h =
      let s = child-over (suc j) (omega arith) h in
      let e : s.0 ≡ suc j = omega (arith, child-after s.0 s.1) in
      rw e at s.1

  -- and what comes past a child's subtree is the end of j's or again a child
  pub child_next : (c : ℕ) → Child B j c → past_of B c < past_of B j → Child B j (past_of B c)
  child_next c x h =
      let s = child-over (past_of B c) (omega (arith, child-after c x, child-past c x)) h in
      let k = s.0 in
      let y = s.1 in
      ⊎_elim
      (λ (b : k ≤ c).
      ⊎_elim
      (λ (e : k ≡ c). absurd (omega (arith, ap (past_of B) e, s.3)))
      (λ (d : k < c). absurd (omega (arith, child_gap k c y x d, child-past c x, s.3)))
      (eq-or-lt_of_le b))
      (λ (b : c < k). let e : k ≡ past_of B c = omega (arith, child_gap c k x y b, s.2) in rw e at y)
      (le_or_lt k c)

-- ---- the way along the children meets each child, and nothing else

module _ (B : List (List ℕ)) (t : Tree B) (j : ℕ) (lt : j < length B) where
  pub way_child : (c : ℕ) → OnWay B j c → Child B j c
  way_child _ (trees.first h) = child_first B t j lt h
  way_child _ (trees.next {c} w h) = child_next B t j lt c (way_child c w) h

  way_to : (k : ℕ) → Child B j k → (fuel c : ℕ) → OnWay B j c → c ≤ k → k ≤ c + fuel → OnWay B j k
  way_to k x zero c w u v = let e : c ≡ k = omega arith in rw e at w
  way_to k x (suc fuel) c w u v =
      ⊎_elim
      (λ (e : c ≡ k). rw e at w)
      (λ (q : c < k).
      let y = way_child c w in
      let more = trees.next w (omega (arith, child_gap B t j lt c k y x q, child-after B t j lt k x)) in
      way_to k x fuel (past_of B c) more (child_gap B t j lt c k y x q) (omega (arith, child-past B t j lt c y)))
      (eq-or-lt_of_le u)

  pub child_way : (k : ℕ) → Child B j k → OnWay B j k
  child_way k x = let a = child-after B t j lt k x in way_to k x k (suc j) (trees.first (omega arith)) (omega arith) (omega arith)

-- ---- texts one byte longer

pub last_snoc : (p : List ℕ) (b : ℕ) → last_byte (p ++ (b ∷ [])) ≡ b
last_snoc [] b = refl
last_snoc (a ∷ []) b = refl
last_snoc (a ∷ c ∷ p) b = last_snoc (c ∷ p) b

begins_snoc : (p q : List ℕ) → begins p q ≡ true → length q ≡ suc (length p) → q ≡ p ++ (last_byte q ∷ [])
begins_snoc p q h l =
    let e = sym (take_all (suc (length p)) q (omega arith)) ∙ take-suc q (length p) 0 (omega arith) ∙ ap (λ m. m ++ (get_or q (length p) 0 ∷ [])) (sym (begins_is_take p q h)) in
    let b = ap last_byte e ∙ last_snoc p (get_or q (length p) 0) in
    e ∙ rw b

module _ (B : List (List ℕ)) (t : Tree B) (j : ℕ) (lt : j < length B) where
  pub child_text : (c : ℕ) → Child B j c → get_or B c [] ≡ get_or B j [] ++ (last_byte (get_or B c []) ∷ [])
  child_text c x = begins_snoc (get_or B j []) (get_or B c []) x.under x.longer

  -- the text of j and a byte b more, where it is there, is the child with the byte b
  pub member_child : (b : ℕ) → In (get_or B j [] ++ (b ∷ [])) B → (c : ℕ) × Child B j c × (last_byte (get_or B c []) ≡ b)
  member_child b h =
      let p = get_or B j [] in
      let s = in-at [] (p ++ (b ∷ [])) B h in
      (s.0, record { inside = s.1; longer = rw (s.2, length-append p (b ∷ [])) (omega arith); under = rw s.2 (begins-append p (b ∷ [])) }, rw s.2 (last_snoc p b))

  -- the children's bytes rise
  pub child_bytes : (c k : ℕ) → Child B j c → Child B j k → c < k → last_byte (get_or B c []) < last_byte (get_or B k [])
  child_bytes c k x y h =
      let a = last_byte (get_or B c []) in
      let b = last_byte (get_or B k []) in
      let strict =
      sym (order_append (get_or B j []) (b ∷ []) (a ∷ []))
      ∙ ap₂ in_order (sym (child_text k y)) (sym (child_text c x))
      ∙ sorted-at B t.sorted c k h y.inside in
      lt_of_not-le (λ u. never _ (order_by b a [] [] u (λ e. refl)) strict)

-- ---- parents

module _ (B : List (List ℕ)) (t : Tree B) where
  -- a child's parent is the node that it is a child of
  pub child_parent : (j : ℕ) → j < length B → (c : ℕ) → Child B j c → number_in (but_last (get_or B c [])) B ≡ j
  child_parent j lt c x =
      let l : length (get_or B c []) - 1 ≡ length (get_or B j []) = omega (arith, x.longer) in
      let e = ap (λ k. take k (get_or B c [])) l ∙ sym (begins_is_take (get_or B j []) (get_or B c []) x.under) in
      ap (λ p. number_in p B) e ∙ number_at B t.sorted j lt

  -- a text without its last byte is there too
  pub parent_in : (q : List ℕ) → In q B → In (but_last q) B
  parent_in q h = t.closed (but_last q) q h (take_begins (length q - 1) q)

  -- each node but the first is a child of its parent, which has a smaller number
  pub parent_child : (j : ℕ) → 0 < j → j < length B → Child B (number_in (but_last (get_or B j [])) B) j × (number_in (but_last (get_or B j [])) B < j)
  parent_child j h lt =
      let q = get_or B j [] in
      let b = take_begins (length q - 1) q in
      let at = number_in_lem (but_last q) B (parent_in q (get_or_in [] B j lt)) in
      let long = some q (sorted-at B t.sorted 0 j h lt) in
      let size = length-take-le (length q - 1) q (omega arith) in
      let x : Child B (number_in (but_last q) B) j = record { inside = lt; longer = rw at.1 (omega (arith, size)); under = rw at.1 b } in
      (x, (child-after B t (number_in (but_last q) B) at.0 j x).0)
    where
      some : (q : List ℕ) → in_order q (get_or B 0 []) ≡ false → 1 ≤ length q
      some [] e = absurd (true≢false e)
      some (a ∷ q) e = omega arith
