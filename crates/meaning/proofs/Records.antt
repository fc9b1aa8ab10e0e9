-- The bit records: which node keeps one, which record serves a node, and that it holds the node's own regions.
-- And in pre-order a node's text but for its last byte begins the text before it. Assumes nothing.
use mathlib.Core.Path.{◌≡◌, refl, sym, ap, ap₂, ◌∙◌}
use mathlib.Core.Bool.{Bool, true, false, not, false≢true}
use mathlib.Core.List.{List, [], ◌∷◌}
use Prim.Native.Nat.{ℕ, zero, suc, ◌+◌, ◌-◌, ◌*◌, ◌≤◌, ◌<◌}
use native.Mathlib.Omega.{arith}
use native.Mathlib.Nat.{zero-add}
use lib.Dec.{eqb}
use lib.ListN.{length, take, get_or}
use lib.Seq.{take-take, take_all, take-length, length-take-le}
use borrow.Table.Steps.{cases}
use borrow.Author.Tests.{eqb-true, eq-eqb}
use Rattle.base.specs.Lists.{up_to, keep, same_list, begins, In}
use Rattle.base.specs.Bits.{word_of, bit_at}
use Rattle.base.proofs.Tests.{never, refuted, both_ways}
use Rattle.base.proofs.Members.{get_or_in, in-keep, keep_same, keep-agree}
use Rattle.base.proofs.Runs.{in_from, from_in}
use Rattle.base.proofs.Begins.{begins-part, begins-length, take_begins, same_true, same_refl}
use Rattle.base.proofs.Words.{bit-asks, word_same}
use Rattle.base.proofs.Rows.{length_rows, get_or_rows}
use Rattle.rules.specs.declared.Grid.{Grid}
use Rattle.rules.specs.Places.{regions}
use Rattle.rules.specs.Names.{in_order}
use Rattle.rules.specs.Tables.{Table, Ordered}
use Rattle.rules.specs.Indexes.{beginnings, node_count, number_in, but_last, occupied, repeats, keepers, keeper_up_to, record_of, record_row, bit_words, record_count}
use Rattle.rules.proofs.Orders.{order_refl}
use Rattle.meaning.specs.Trees.{Sorted, Tree, Child, text_of}
use Rattle.meaning.proofs.Tree.{number_in_lem}
use Rattle.meaning.proofs.Children.{subtree_only, child-after, parent_child}
use Rattle.meaning.proofs.Tables.{beginnings-tree}
use Rattle.meaning.proofs.Adding.{but_last_take}

-- ---- what two tests keep, and their words

-- two tests keep the same numbers exactly if their words are the same
kept_word : (f g : ℕ → Bool) (n : ℕ) → same_list (keep f (up_to n)) (keep g (up_to n)) ≡ eqb (word_of f 0 n) (word_of g 0 n)
kept_word f g n =
    let asks : (h : ℕ → Bool) (k : ℕ) → k < 0 + n → bit_at (word_of h 0 n) k ≡ h k = λ h k l. bit-asks h 0 n k (omega arith) ∙ ap h (zero-add k) in
    both_ways (same_list (keep f (up_to n)) (keep g (up_to n))) (eqb (word_of f 0 n) (word_of g 0 n))
    (λ s. eq-eqb _ _ (word_same f g 0 0 n (λ k h. keep-agree f g (up_to n) (same_true _ _ s) (0 + k) (from_in 0 n (0 + k) (omega arith) (omega arith)))))
    (λ q.
    let agree : (k : ℕ) → In k (up_to n) → f k ≡ g k = λ k h.
    let l = (in_from 0 n k h).1 in sym (asks f k l) ∙ ap (λ (w : ℕ). bit_at w k) (eqb-true _ _ q) ∙ asks g k l in
    rw (keep_same f g (up_to n) agree) (same_refl (keep g (up_to n))))

-- ---- of texts in order, those kept: the number of one is how many are kept before it

number_kept : (f : List ℕ → Bool) (B : List (List ℕ)) → Sorted B → (j : ℕ) → j < length B → f (get_or B j []) ≡ true
    → number_in (get_or B j []) (keep f B) ≡ length (keep f (take j B))
number_kept f [] s j h q = absurd (omega arith)
number_kept f (x ∷ B) s zero h q = rw (q, same_refl x)
number_kept f (x ∷ B) s (suc j) h q =
    let y = get_or B j [] in
    let r = number_kept f B s.1 j (omega arith) q in
    let other : same_list y x ≡ false = refuted (same_list y x) (λ e. never (in_order x x) (order_refl x) (rw (same_true y x e) at (s.0 y (get_or_in [] B j (omega arith))))) in
    cases (f x) (λ c. rw (c, other, r)) (λ c. rw (c, r))

-- ---- a node that has its parent's regions

module _ (t : Table) (g : Grid) where
  repeats-regions : (p : List ℕ) → 0 < length p → repeats t g p ≡ eqb (word_of (occupied t g (but_last p)) 0 regions) (word_of (occupied t g p) 0 regions)
  unfolding repeats
  repeats-regions [] h = absurd (omega arith)
  repeats-regions (a ∷ p) h = kept_word (occupied t g (but_last (a ∷ p))) (occupied t g (a ∷ p)) regions

  -- by the words of their bits
  pub repeats_word : (p : List ℕ) → 0 < length p → repeats t g p ≡ eqb (word_of (occupied t g (but_last p)) 0 64) (word_of (occupied t g p) 0 64)
  unfolding regions
  repeats_word = repeats-regions

  -- the regions under such a node's text are those under its parent's
  pub repeat_same : (p : List ℕ) → repeats t g p ≡ true → (r : ℕ) → r < regions → occupied t g (but_last p) r ≡ occupied t g p r
  unfolding repeats
  repeat_same [] q r h = absurd (false≢true q)
  repeat_same (a ∷ p) q r h =
      keep-agree (occupied t g (but_last (a ∷ p))) (occupied t g (a ∷ p)) (up_to regions) (same_true _ _ q) r (from_in 0 regions r (omega arith) (omega arith))

  pub same_repeat : (p : List ℕ) → 0 < length p → ((r : ℕ) → r < regions → occupied t g (but_last p) r ≡ occupied t g p r) → repeats t g p ≡ true
  same_repeat p h e =
      repeats-regions p h
      ∙ eq-eqb _ _ (word_same (occupied t g (but_last p)) (occupied t g p) 0 0 regions (λ k l. e (0 + k) (omega arith)))

  -- ---- the node that keeps the record of a text

  abbrev keeper : List ℕ → List ℕ
  keeper p = keeper_up_to t g p (length p)

  pub root-keeps : repeats t g [] ≡ false
  unfolding repeats
  root-keeps = refl

  pub repeat_some : (p : List ℕ) → repeats t g p ≡ true → 0 < length p
  repeat_some [] q = never _ q root-keeps
  repeat_some (a ∷ p) q = omega arith

  -- a longer text has the same keepers
  keeper_begun : (p : List ℕ) (n l : ℕ) → l ≤ n → keeper_up_to t g (take n p) l ≡ keeper_up_to t g p l
  keeper_begun p n zero h = refl
  keeper_begun p n (suc l) h = rw (take-take (suc l) n p h, keeper_begun p n l (omega arith))

  -- its own, or its parent's
  keeper_own : (p : List ℕ) → repeats t g p ≡ false → keeper p ≡ p
  keeper_own [] q = refl
  keeper_own (a ∷ p) q = rw (take-length p, q)

  keeper_repeat : (p : List ℕ) → repeats t g p ≡ true → keeper p ≡ keeper (but_last p)
  keeper_repeat p q =
      let n = length p - 1 in
      let whole : length p ≡ suc n = omega (arith, repeat_some p q) in
      let up : keeper_up_to t g p (suc n) ≡ keeper_up_to t g p n = rw (take_all (suc n) p (omega arith), q) in
      ap (keeper_up_to t g p) whole ∙ up ∙ sym (keeper_begun p n n (omega arith)) ∙ ap (keeper_up_to t g (but_last p)) (sym (length-take-le n p (omega arith)))

  -- a text has the regions of its keeper
  keeper_same : (p : List ℕ) (l : ℕ) → l ≤ length p → (r : ℕ) → r < regions → occupied t g (keeper_up_to t g p l) r ≡ occupied t g (take l p) r
  keeper_same p zero h r k = refl
  keeper_same p (suc l) h r k =
      cases (repeats t g (take (suc l) p))
      (λ q.
      let above = keeper_same p l (omega arith) r k in
      rw q (above ∙ rw (but_last_take p l h) at (repeat_same (take (suc l) p) q r k)))
      (λ q. rw q)

  -- ---- the record that serves a text

  -- a node with its parent's regions is served by its parent's record
  pub record_repeat : (p : List ℕ) → repeats t g p ≡ true → record_of t g p ≡ record_of t g (but_last p)
  unfolding record_of
  record_repeat p q = ap (λ (k : List ℕ). number_in k (keepers t g)) (keeper_repeat p q)

  -- any other by its own
  pub record_number : (p : List ℕ) → repeats t g p ≡ false → record_of t g p ≡ number_in p (keepers t g)
  unfolding record_of
  record_number p q = ap (λ (k : List ℕ). number_in k (keepers t g)) (keeper_own p q)

  row_same : (p q : List ℕ) → ((r : ℕ) → r < regions → occupied t g p r ≡ occupied t g q r) → record_row t g p ≡ record_row t g q
  unfolding regions
  row_same p q e =
      ap₂ (λ (a b : ℕ). a ∷ b ∷ [])
      (word_same (occupied t g p) (occupied t g q) 0 0 32 (λ k h. e (0 + k) (omega arith)))
      (word_same (occupied t g p) (occupied t g q) 32 32 32 (λ k h. e (32 + k) (omega arith)))

  pub bit_words_length : length (bit_words t g) ≡ record_count t g * 2
  bit_words_length = length_rows (record_row t g) 2 (λ p. refl) (keepers t g)

  module _ (o : Ordered t) where
    abbrev B : List (List ℕ)
    B = beginnings t

    tree : Tree B
    tree = beginnings-tree t o

    keeper_kept : (p : List ℕ) (l : ℕ) → In p B → In (keeper_up_to t g p l) (keepers t g)
    keeper_kept p zero h = in-keep (λ q. not (repeats t g q)) B [] (tree.closed [] p h refl) (rw root-keeps)
    keeper_kept p (suc l) h =
        cases (repeats t g (take (suc l) p))
        (λ q. rw q (keeper_kept p l h))
        (λ q. rw q (in-keep (λ q. not (repeats t g q)) B (take (suc l) p) (tree.closed (take (suc l) p) p h (take_begins (suc l) p)) (rw q)))

    pub record_less : (p : List ℕ) → In p B → record_of t g p < record_count t g
    unfolding record_of
    record_less p h = (number_in_lem (keeper p) (keepers t g) (keeper_kept p (length p) h)).0

    -- a node that keeps a record has the number of those kept before it
    pub record_own : (j : ℕ) → j < node_count t → repeats t g (text_of t j) ≡ false → record_of t g (text_of t j) ≡ length (keep (λ q. not (repeats t g q)) (take j B))
    record_own j h q = record_number (text_of t j) q ∙ number_kept (λ q. not (repeats t g q)) B tree.sorted j h (rw q)

    -- the words of the record that serves a node are of the node's own regions
    pub record_word_lem : (p : List ℕ) (k : ℕ) → In p B → k < 2 → get_or (bit_words t g) (record_of t g p * 2 + k) 0 ≡ get_or (record_row t g p) k 0
    unfolding record_of
    record_word_lem p k h u =
        let at = number_in_lem (keeper p) (keepers t g) (keeper_kept p (length p) h) in
        let same : (r : ℕ) → r < regions → occupied t g (keeper p) r ≡ occupied t g p r = λ r v.
        keeper_same p (length p) (omega arith) r v ∙ ap (λ (q : List ℕ). occupied t g q r) (take-length p) in
        get_or_rows (record_row t g) 2 (λ p. refl) [] 0 (keepers t g) (number_in (keeper p) (keepers t g)) k at.0 u
        ∙ ap (λ (w : List ℕ). get_or w k 0) (ap (record_row t g) at.1 ∙ row_same (keeper p) p same)

-- ---- in pre-order a node's parent begins the text before

module _ (t : Table) (o : Ordered t) (j : ℕ) (h : suc j < node_count t) where
  -- the parent of node j + 1: node j's text begins with its text, too
  over : (c : ℕ) × (begins (text_of t c) (text_of t j) ≡ true) × Child (beginnings t) c (suc j)
  over =
      let B = beginnings t in
      let tree = beginnings-tree t o in
      let c = number_in (but_last (text_of t (suc j))) B in
      let x = parent_child B tree (suc j) (omega arith) h in
      let lt : c < length B = omega arith in
      (c, (subtree_only B tree.sorted c lt j (omega arith) (omega (arith, child-after B tree c lt (suc j) x.0))).1, x.0)

  pub next_above : (k : ℕ) → k < length (text_of t (suc j)) → take k (text_of t (suc j)) ≡ take k (text_of t j)
  next_above k l =
      let c = over.0 in
      let x = over.2 in
      let short : k ≤ length (text_of t c) = omega (arith, x.longer) in
      begins-part (text_of t c) (text_of t (suc j)) k x.under short ∙ sym (begins-part (text_of t c) (text_of t j) k over.1 short)

  pub next_length : length (text_of t (suc j)) ≤ suc (length (text_of t j))
  next_length = omega (arith, over.2.longer, begins-length (text_of t over.0) (text_of t j) over.1)
