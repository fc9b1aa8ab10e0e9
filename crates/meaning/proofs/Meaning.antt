-- The theorem that the definitions of the rules mean what their words say; the statements are in specs/Meaning.
-- Assumes nothing.
use mathlib.Core.Path.{◌≡◌, ap}
use mathlib.Core.Logic.{inl, inr, ⊎_elim}
use mathlib.Core.List.{List, []}
use Prim.Native.Nat.{ℕ, ◌<◌}
use native.Mathlib.Omega.{arith}
use lib.ListN.{length}
use Rattle.base.specs.Lists.{In}
use Rattle.base.proofs.Members.{get_or_in}
use Rattle.rules.specs.declared.Grid.{Grid}
use Rattle.rules.specs.Tables.{Table, Ordered, table_refusal}
use Rattle.rules.specs.Indexes.{beginnings, node_count}
use Rattle.rules.specs.Sessions.{node_or0}
use Rattle.rules.proofs.Lawful.{lawful}
use Rattle.meaning.specs.Trees.{Tree, text_of}
use Rattle.meaning.specs.Meaning.{StandUnder, BeginningsMean, NodeMeans, TableMeans}
use Rattle.meaning.proofs.Tree.{sorted_once, number_in_lem, number_at}
use Rattle.meaning.proofs.Children.{subtree_in, subtree_only, way_child, child_way, child_bytes, child_parent, parent_in, parent_child}
use Rattle.meaning.proofs.Tables.{beginnings-tree, beginnings_of, beginnings_from, root_first}
use Rattle.meaning.proofs.Walking.{node_in, node_out}
use Rattle.meaning.proofs.Sizes.{sizes_bounded, sizes_by_text}
use Rattle.meaning.proofs.Listing.{under_means, order_means, range_means}
use Rattle.meaning.proofs.Entries.{entries_mean}
use Rattle.meaning.proofs.NodeWords.{row_means}
use Rattle.meaning.proofs.Keepers.{records_mean}
use Rattle.meaning.proofs.Ranking.{ranked_means}

module _ (t : Table) (o : Ordered t) where
  abbrev B : List (List ℕ)
  B = beginnings t

  tree : Tree B
  tree = beginnings-tree t o

  pub beginnings_mean : BeginningsMean t
  beginnings_mean =
      record {
        root = root_first t;
        every = λ i p u. beginnings_of t i p u.stand u.named;
        only = λ p h. ⊎_elim inl (λ s. inr (s.0, record { stand = s.1; named = s.2 })) (beginnings_from t p h);
        once = sorted_once B tree.sorted;
        numbered = number_at B tree.sorted;
        parent = λ j h k. (parent_in B tree (text_of t j) (get_or_in [] B j k), (parent_child B tree j h k).1);
        subtree = λ j i h. subtree_in B tree.sorted j h i;
        unbroken = λ j i h. subtree_only B tree.sorted j h i;
        way = λ j c h. (way_child B tree j h c, child_way B tree j h c);
        parents = λ j c h. child_parent B tree j h c;
        children = λ j c k h. child_bytes B tree j h c k;
      }

-- ---- the node of a typed text

module _ (t : Table) (p : List ℕ) where
  found : In p (beginnings t) → (node_or0 t p < node_count t) × (text_of t (node_or0 t p) ≡ p)
  found h = let s = number_in_lem p (beginnings t) h in rw (node_in t p h) s

  none : 0 < length p → ((i : ℕ) → StandUnder t p i → ⊥) → In p (beginnings t) → ⊥
  none some lack h = ⊎_elim (λ e. omega (arith, ap length e)) (λ s. lack s.0 (record { stand = s.1; named = s.2 })) (beginnings_from t p h)

  pub node_means : NodeMeans t p
  node_means = record { found = λ i u. found (beginnings_of t i p u.stand u.named); missing = λ some lack. node_out t p (none some lack) }

-- ---- all of it

pub table_means : (t : Table) (g : Grid) → table_refusal t g ≡ 0 → TableMeans t g
table_means t g e =
    let l = lawful t g e in
    record {
      stands_under = under_means t;
      tree = beginnings_mean t l.ordered;
      nodes = node_means t;
      order = order_means t g l;
      entries = entries_mean t g l;
      rows = row_means t g l.ordered;
      records = records_mean t g l.ordered;
      range = range_means t g l;
      ranked = ranked_means t g;
      sizes = sizes_bounded t g l;
      by_text = sizes_by_text t g l;
    }
