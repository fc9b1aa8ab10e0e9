-- What the records mean: the root keeps the first, a node that repeats its parent's regions has its parent's, and the others have each its
-- own, in their turn. Assumes nothing.
use mathlib.Core.Path.{◌≡◌, sym, ap, ◌∙◌}
use mathlib.Core.Bool.{Bool, true, false, not}
use mathlib.Core.List.{List, [], ◌∷◌}
use Prim.Native.Nat.{ℕ, zero, suc, ◌<◌}
use native.Mathlib.Omega.{arith}
use lib.Dec.{lit<}
use lib.ListN.{length, take, get_or}
use borrow.Table.Steps.{cases}
use borrow.Author.Tests.{not-true}
use Rattle.base.specs.Lists.{keep}
use Rattle.base.proofs.Tests.{tested, missed}
use Rattle.base.proofs.Members.{get_or_in, in-at, keep-in}
use Rattle.base.proofs.Pairs.{pairs_keep}
use Rattle.rules.specs.declared.Grid.{Grid}
use Rattle.rules.specs.Names.{in_order}
use Rattle.rules.specs.Tables.{Table, Ordered}
use Rattle.rules.specs.Indexes.{beginnings, node_count, number_in, but_last, repeats, keepers, record_of, record_count}
use Rattle.meaning.specs.Trees.{Tree, text_of}
use Rattle.meaning.specs.Meaning.{word_at, RecordsMean}
use Rattle.meaning.proofs.Tree.{number_in_lem, number_at}
use Rattle.meaning.proofs.Children.{parent_in}
use Rattle.meaning.proofs.Tables.{beginnings-tree, root_first}
use Rattle.meaning.proofs.Words.{node_word_lem}
use Rattle.meaning.proofs.Records.{root-keeps, record_repeat, record_number, record_own}

-- of two places, more pass before the later one, where the earlier passes
count_rises : {A : Type 0} (f : A → Bool) (d : A) (l : List A) (j k : ℕ) → j < k → j < length l → f (get_or l j d) ≡ true
    → length (keep f (take j l)) < length (keep f (take k l))
count_rises f d [] j k u h q = absurd (omega arith)
count_rises f d (x ∷ l) j zero u h q = absurd (omega arith)
count_rises f d (x ∷ l) zero (suc k) u h q = rw q (omega arith)
count_rises f d (x ∷ l) (suc j) (suc k) u h q =
    let r = count_rises f d l j k (omega arith) (omega arith) q in
    cases (f x) (λ c. rw c (omega arith)) (λ c. rw c r)

module _ (t : Table) (g : Grid) (o : Ordered t) where
  abbrev B : List (List ℕ)
  B = beginnings t

  tree : Tree B
  tree = beginnings-tree t o

  abbrev keeps : List ℕ → Bool
  keeps p = not (repeats t g p)

  -- what words 5 and 6 of a node say
  record_at : (j : ℕ) → j < node_count t → word_at t g j 5 ≡ record_of t g (text_of t j)
  record_at j h = node_word_lem t g j 5 h (lit< tt)

  mark_own : (j : ℕ) → j < node_count t → repeats t g (text_of t j) ≡ false → word_at t g j 6 ≡ 0
  mark_own j h q = node_word_lem t g j 6 h (lit< tt) ∙ rw q

  own : (j : ℕ) → j < node_count t → word_at t g j 6 ≡ 0 → repeats t g (text_of t j) ≡ false
  own j h e = (missed (repeats t g (text_of t j)) (λ z. omega arith) (sym (node_word_lem t g j 6 h (lit< tt)) ∙ e)).0

  counted : (j : ℕ) → j < node_count t → repeats t g (text_of t j) ≡ false → word_at t g j 5 ≡ length (keep keeps (take j B))
  counted j h q = record_at j h ∙ record_own t g o j h q

  root_own : repeats t g (text_of t 0) ≡ false
  root_own = rw (root_first t).1 (root-keeps t g)

  parents : (j : ℕ) → j < node_count t → word_at t g j 6 ≡ 1 → word_at t g j 5 ≡ word_at t g (word_at t g j 0) 5
  parents j h e =
      let p = text_of t j in
      let q = (tested (repeats t g p) (λ z. omega arith) (sym (node_word_lem t g j 6 h (lit< tt)) ∙ e)).0 in
      let at = number_in_lem (but_last p) B (parent_in B tree p (get_or_in [] B j h)) in
      record_at j h
      ∙ record_repeat t g p q
      ∙ ap (record_of t g) (sym at.1)
      ∙ sym (record_at (number_in (but_last p) B) at.0)
      ∙ ap (λ (n : ℕ). word_at t g n 5) (sym (node_word_lem t g j 0 h (lit< tt)))

  in_turn : (j k : ℕ) → j < k → k < node_count t → word_at t g j 6 ≡ 0 → word_at t g k 6 ≡ 0 → word_at t g j 5 < word_at t g k 5
  in_turn j k u h a b =
      let lt : j < node_count t = omega arith in
      let q = own j lt a in
      rw (counted j lt q, counted k h (own k h b)) (count_rises keeps [] B j k u lt (rw q))

  used : (n : ℕ) → n < record_count t g → (j : ℕ) × (j < node_count t) × (word_at t g j 6 ≡ 0) × (word_at t g j 5 ≡ n)
  used n h =
      let p = get_or (keepers t g) n [] in
      let k = keep-in keeps B p (get_or_in [] (keepers t g) n h) in
      let q = not-true (repeats t g p) k.1 in
      let s = in-at [] p B k.0 in
      let sorted = pairs_keep (λ x y. in_order y x ≡ false) keeps B tree.sorted in (
        s.0,
        s.1,
        mark_own s.0 s.1 (rw s.2 q),
        record_at s.0 s.1 ∙ ap (record_of t g) s.2 ∙ record_number t g p q ∙ number_at (keepers t g) sorted n h,
      )

  pub records_mean : RecordsMean t g
  records_mean =
      record {
        root = (counted 0 (root_first t).0 root_own, mark_own 0 (root_first t).0 root_own);
        parents = parents;
        in_turn = in_turn;
        used = used;
      }
