-- The eight words of a node, where they stand in the node words, mean what the rules say.
-- Assumes nothing.
use mathlib.Core.Path.{◌≡◌, refl, sym, ap, ◌∙◌, subst}
use mathlib.Core.Logic.{inl, inr}
use mathlib.Core.Bool.{true}
use mathlib.Core.List.{List, [], ◌∷◌, ◌++◌}
use Prim.Native.Nat.{ℕ, ◌+◌, ◌*◌, ◌≤◌, ◌<◌}
use native.Mathlib.Omega.{arith}
use native.Mathlib.Nat.{zero-add, lt_of_not-le}
use lib.Dec.{lit<}
use lib.ListN.{length, get_or}
use borrow.Table.Steps.{cases}
use Rattle.base.specs.Lists.{In}
use Rattle.base.specs.Bits.{word_of, bit_at}
use Rattle.base.proofs.Tests.{tested, both_ways}
use Rattle.base.proofs.Members.{get_or_in}
use Rattle.base.proofs.Words.{bit-asks}
use Rattle.rules.specs.declared.Grid.{Grid}
use Rattle.rules.specs.Places.{regions}
use Rattle.rules.specs.Tables.{Table, Ordered}
use Rattle.rules.specs.Indexes.{beginnings, node_count, number_in, last_byte, but_last, occupied, repeats, record_row, node_row, node_words, entry_words}
use Rattle.meaning.specs.Trees.{Tree, text_of}
use Rattle.meaning.specs.Meaning.{no_entry, RegionHeld, SameRegions, record_word, RowMeans}
use Rattle.meaning.proofs.Tree.{number_in_lem, number_at}
use Rattle.meaning.proofs.Children.{subtree_in, subtree_only, child_text, parent_in, parent_child}
use Rattle.meaning.proofs.Tables.{beginnings-tree, root_first, under_from, under_only}
use Rattle.meaning.proofs.Words.{node_word_lem, entries_length, entry_word_lem}
use Rattle.meaning.proofs.Records.{record_less, record_word_lem, repeat_same, same_repeat, repeat_some}
use Rattle.meaning.proofs.Listing.{occupied_held, held_occupied}

-- texts have the same regions where they occupy the same
module _ (t : Table) (g : Grid) (p q : List ℕ) where
  regions_same : ((r : ℕ) → r < regions → occupied t g p r ≡ occupied t g q r) → SameRegions t g p q
  regions_same e r h =
      ((λ u. occupied_held t g q r (sym (e r h) ∙ held_occupied t g p r u)), (λ u. occupied_held t g p r (e r h ∙ held_occupied t g q r u)))

  same_regions : SameRegions t g p q → (r : ℕ) → r < regions → occupied t g p r ≡ occupied t g q r
  same_regions s r h =
      both_ways (occupied t g p r) (occupied t g q r)
      (λ u. held_occupied t g q r ((s r h).0 (occupied_held t g p r u)))
      (λ u. held_occupied t g p r ((s r h).1 (occupied_held t g q r u)))

module _ (t : Table) (g : Grid) (o : Ordered t) (j : ℕ) (lt : j < node_count t) where
  abbrev B : List (List ℕ)
  B = beginnings t

  abbrev p : List ℕ
  p = text_of t j

  tree : Tree B
  tree = beginnings-tree t o

  -- a node with a text is not the root
  later : 0 < length p → 0 < j
  later h = lt_of_not-le (λ (k : j ≤ 0). let e : j ≡ 0 = omega arith in omega (arith, ap length (ap (text_of t) e ∙ (root_first t).1)))

  here : In p B
  here = get_or_in [] B j lt

  -- for words that are those of the definition
  module _ (w : ℕ → ℕ) (same : (k : ℕ) → k < 8 → w k ≡ get_or (node_row t g j) k 0) where
    root : j ≡ 0 → (w 0 ≡ 0) × (w 1 ≡ 0)
    root e =
        let empty : p ≡ [] = ap (text_of t) e ∙ (root_first t).1 in
        let first : number_in [] B ≡ 0 = ap (λ (q : List ℕ). number_in q B) (sym (root_first t).1) ∙ number_at B tree.sorted 0 (root_first t).0 in
        (same 0 (lit< tt) ∙ ap (λ (q : List ℕ). number_in (but_last q) B) empty ∙ first, same 1 (lit< tt) ∙ ap last_byte empty)

    parent : 0 < j → (w 0 < j) × (p ≡ text_of t (w 0) ++ (w 1 ∷ []))
    parent h =
        let c = parent_child B tree j h lt in
        rw (same 0 (lit< tt), same 1 (lit< tt)) (c.1, child_text B tree (number_in (but_last p) B) (omega arith) j c.0)

    -- the parent's text is the node's without its last byte, for the root too
    above : text_of t (w 0) ≡ but_last p
    above = rw (same 0 (lit< tt)) (number_in_lem (but_last p) B (parent_in B tree p here)).1

    -- bit r of word k of the node's record asks whether the region is occupied
    module _ (k base : ℕ) (u : k < 2) (bits : get_or (record_row t g p) k 0 ≡ word_of (occupied t g p) base 32) (r : ℕ) (h : r < 32) where
      asks : bit_at (record_word t g (w 5) k) r ≡ occupied t g p (base + r)
      asks =
          ap (λ (n : ℕ). bit_at (record_word t g n k) r) (same 5 (lit< tt))
          ∙ ap (λ (v : ℕ). bit_at v r) (record_word_lem t g o p k here u ∙ bits)
          ∙ bit-asks (occupied t g p) base 32 r h

      bit_held : bit_at (record_word t g (w 5) k) r ≡ true → RegionHeld t g p (base + r)
      bit_held b = occupied_held t g p (base + r) (sym asks ∙ b)

      held_bit : RegionHeld t g p (base + r) → bit_at (record_word t g (w 5) k) r ≡ true
      held_bit u = asks ∙ held_occupied t g p (base + r) u

    row_of : RowMeans t g j w
    row_of =
        record {
          root = root;
          parent = parent;
          stands_in = λ i u. rw (same 2 (lit< tt), same 3 (lit< tt)) (under_from t o p i u.stand u.named);
          stands_only = λ i a b.
              let s = under_only t o p i (omega (arith, same 2 (lit< tt))) (omega (arith, same 3 (lit< tt))) in
              record { stand = s.0; named = s.1 };
          nodes_in = λ i h b. rw (same 4 (lit< tt)) (subtree_in B tree.sorted j lt i h b);
          nodes_only = λ i a b. subtree_only B tree.sorted j lt i a (omega (arith, same 4 (lit< tt)));
          recorded = rw (same 5 (lit< tt)) (record_less t g o p here);
          low_held = λ r h b. subst (RegionHeld t g p) (zero-add r) (bit_held 0 0 (lit< tt) refl r h b);
          held_low = λ r h u. held_bit 0 0 (lit< tt) refl r h (subst (RegionHeld t g p) (sym (zero-add r)) u);
          high_held = bit_held 1 32 (lit< tt) refl;
          held_high = held_bit 1 32 (lit< tt) refl;
          marked = cases (repeats t g p) (λ q. inr (same 6 (lit< tt) ∙ rw q)) (λ q. inl (same 6 (lit< tt) ∙ rw q));
          repeated = λ e.
              let q = (tested (repeats t g p) (λ z. omega arith) (sym (same 6 (lit< tt)) ∙ e)).0 in
              (later (repeat_some t g p q), rw above (regions_same t g (but_last p) p (repeat_same t g p q)));
          repeating = λ h s.
              let c = (parent_child B tree j h lt).0 in
              let q = same_repeat t g p (omega (arith, c.longer)) (same_regions t g (but_last p) p (rw above at s)) in
              same 6 (lit< tt) ∙ rw q;
          entries = λ e k a b.
              let here = entry_word_lem t g no_entry j e k lt (omega (arith, entries_length t g p)) b in
              ap (λ (v : ℕ). get_or (entry_words t g) ((v + e) * 4 + k) 0) (same 7 (lit< tt)) ∙ here;
        }

  pub row_means : RowMeans t g j (λ k. get_or (node_words t g) (j * 8 + k) 0)
  row_means = row_of (λ k. get_or (node_words t g) (j * 8 + k) 0) (λ k h. node_word_lem t g j k lt h)
