-- The laws at a table whose names are in order: its beginnings are a tree, and the stands under a text are a run.
-- Assumes nothing.
use mathlib.Core.Path.{◌≡◌, refl, ap, ap₂}
use mathlib.Core.Logic.{◌⊎◌, inl, inr, ⊎_elim}
use mathlib.Core.Bool.{true}
use mathlib.Core.List.{List, [], ◌∷◌, ◌++◌}
use Prim.Native.Nat.{ℕ, zero, suc, ◌+◌, ◌-◌, ◌≤◌, ◌<◌}
use native.Mathlib.Omega.{arith}
use native.Mathlib.Numerals.{add-one}
use lib.ListN.{length}
use Rattle.base.specs.Lists.{from_on, up_to, each, each_list, first_of, begins, In}
use Rattle.base.proofs.Tests.{le_or_lt}
use Rattle.base.proofs.Members.{in-each, each_in, keep-in, in-keep, keep-every}
use Rattle.base.proofs.Runs.{in_from, from_in, Run}
use Rattle.rules.specs.Tables.{Table, stands, name_of, Ordered}
use Rattle.rules.specs.Questions.{under}
use Rattle.rules.specs.Indexes.{new_at, beginnings, node_count, past_of}
use Rattle.rules.proofs.Orders.{rising}
use Rattle.meaning.specs.Trees.{Tree, text_of, names_of, fresh, trie_from, trie_of, Chain}
use Rattle.meaning.specs.Adding.{name_before}
use Rattle.meaning.proofs.Blocks.{block_run, block_in, block_out}
use Rattle.meaning.proofs.Fresh.{fresh-all}
use Rattle.meaning.proofs.Tree.{Beginning, tree_member, tree-every, tree_of}

module _ (t : Table) where
  -- ---- its beginnings

  pub new_fresh : (i : ℕ) → new_at t i ≡ fresh (name_before t i) (name_of t i)
  new_fresh zero = fresh-all (name_of t 0)
  new_fresh (suc i) = refl

  new_from : (a n : ℕ) → each_list (new_at t) (from_on a n) ≡ trie_from (name_before t a) (each (name_of t) (from_on a n))
  new_from a zero = refl
  new_from a (suc n) = ap₂ (λ (u v : List (List ℕ)). u ++ v) (new_fresh a) (new_from (suc a) n)

  beginnings_trie : beginnings t ≡ trie_of (names_of t)
  unfolding beginnings
  beginnings_trie = ap (λ (l : List (List ℕ)). [] ∷ l) (new_from 0 (stands t))

  names_chain : (o : Ordered t) (a n : ℕ) → a + n ≤ stands t → Chain (name_before t a) (each (name_of t) (from_on a n))
  names_chain o a zero h = tt
  names_chain o zero (suc n) h = (refl, names_chain o 1 n (omega arith))
  names_chain o (suc a) (suc n) h = (rw add-one at (o a (omega arith)), names_chain o (suc (suc a)) n (omega arith))

  pub beginnings-tree : Ordered t → Tree (beginnings t)
  beginnings-tree o = rw beginnings_trie (tree_of (names_of t) (names_chain o 0 (stands t) (omega arith)))

  -- a beginning of a stand's name is there
  pub beginnings_of : (i : ℕ) (p : List ℕ) → i < stands t → begins p (name_of t i) ≡ true → In p (beginnings t)
  beginnings_of i p h b =
      rw beginnings_trie
      (tree-every (names_of t) (name_of t i) p (each_in (name_of t) (up_to (stands t)) i (from_in 0 (stands t) i (omega arith) (omega arith))) b)

  -- and nothing else but the empty one
  pub beginnings_from : (p : List ℕ) → In p (beginnings t) → (p ≡ []) ⊎ ((i : ℕ) × (i < stands t) × (begins p (name_of t i) ≡ true))
  beginnings_from p h =
      ⊎_elim
      (λ (e : p ≡ []). inl e)
      (λ (b : Beginning p (names_of t)).
      let s = in-each (name_of t) (up_to (stands t)) b.0 b.1 in
      let r = in_from 0 (stands t) s.0 s.1 in
      inr (s.0, omega arith, rw s.2 at b.2))
      (tree_member (names_of t) p (rw beginnings_trie at h))

  -- the root is there
  pub root_first : (0 < node_count t) × (text_of t 0 ≡ [])
  unfolding beginnings
  root_first = (omega arith, refl)

  -- and its subtree is the whole tree
  pub past-root : past_of (beginnings t) 0 ≡ length (beginnings t)
  unfolding beginnings
  past-root = omega (arith, ap length (keep-every (begins []) (beginnings t) (λ x h. refl)))

  -- ---- the stands under a text

  pub under-in : (p : List ℕ) (i : ℕ) → i < stands t → begins p (name_of t i) ≡ true → In i (under t p)
  unfolding under
  under-in p i h b = in-keep (λ i. begins p (name_of t i)) (up_to (stands t)) i (from_in 0 (stands t) i (omega arith) (omega arith)) b

  pub in-under : (p : List ℕ) (i : ℕ) → In i (under t p) → (i < stands t) × (begins p (name_of t i) ≡ true)
  unfolding under
  in-under p i h =
      let k = keep-in (λ i. begins p (name_of t i)) (up_to (stands t)) i h in
      let r = in_from 0 (stands t) i k.0 in
      (omega arith, k.1)

  pub under_all : under t [] ≡ up_to (stands t)
  unfolding under
  under_all = keep-every (λ i. begins [] (name_of t i)) (up_to (stands t)) (λ x h. refl)

  module _ (o : Ordered t) (p : List ℕ) where
    pub under-run : Run (under t p)
    unfolding under
    under-run = block_run (name_of t) (stands t) (rising (name_of t) (stands t) o) p

    pub under_from : (i : ℕ) → i < stands t → begins p (name_of t i) ≡ true → (first_of (under t p) ≤ i) × (i < first_of (under t p) + length (under t p))
    unfolding under
    under_from = block_in (name_of t) (stands t) (rising (name_of t) (stands t) o) p

    pub under_only : (i : ℕ) → first_of (under t p) ≤ i → i < first_of (under t p) + length (under t p) → (i < stands t) × (begins p (name_of t i) ≡ true)
    unfolding under
    under_only = block_out (name_of t) (stands t) (rising (name_of t) (stands t) o) p

    -- the run ends within the table, also where it is empty
    pub under_fits : first_of (under t p) + length (under t p) ≤ stands t
    under_fits =
        ⊎_elim
        (none (under t p))
        (λ (h : 0 < length (under t p)). omega (arith, (under_only (first_of (under t p) + length (under t p) - 1) (omega arith) (omega arith)).0))
        (le_or_lt (length (under t p)) 0)
      where
        none : (l : List ℕ) → length l ≤ 0 → first_of l + length l ≤ stands t
        none [] h = omega arith
        none (x ∷ l) h = absurd (omega arith)
