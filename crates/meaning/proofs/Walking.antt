-- For a search along j + 1, past of that, .. for the child of node j with the byte b: it starts, goes on, finds or ends.
-- And the nodes of a session's texts. Assumes nothing.
use mathlib.Core.Path.{◌≡◌, sym, ap, ◌∙◌}
use mathlib.Core.Logic.{⊎_elim}
use mathlib.Core.List.{List, [], ◌∷◌, ◌++◌}
use Prim.Native.Nat.{ℕ, suc, ◌≤◌, ◌<◌}
use native.Mathlib.Omega.{arith}
use lib.ListN.{length, get_or}
use borrow.Author.Tests.{lt-ltb, le-ltb}
use Rattle.base.specs.Lists.{In}
use Rattle.base.proofs.Tests.{le_or_lt}
use Rattle.rules.specs.Tables.{Table}
use Rattle.rules.specs.Indexes.{beginnings, number_in, last_byte, past_of}
use Rattle.rules.specs.Sessions.{node_or0}
use Rattle.meaning.specs.Trees.{Tree, Looking}
use Rattle.meaning.proofs.Tree.{number_in_lem, number_out, number_at}
use Rattle.meaning.proofs.Children.{past_bounds, child-after, child-past, child_first, child_next, child_gap, child_text, member_child}

module _ (B : List (List ℕ)) (t : Tree B) (j : ℕ) (lt : j < length B) (b : ℕ) where
  pub look_start : Looking B j b (suc j)
  look_start = record { within = (past_bounds B t.sorted j lt).0; child = child_first B t j lt; rest = λ k x e. (child-after B t j lt k x).0 }

  pub look_next : (c : ℕ) → Looking B j b c → c < past_of B j → (last_byte (get_or B c []) ≡ b → ⊥) → Looking B j b (past_of B c)
  look_next c l h n =
      let x = l.child h in
      record {
        within = (child-past B t j lt c x).1;
        child = child_next B t j lt c x;
        rest = λ k y e.
            ⊎_elim
            (λ (q : k ≤ c). let s : k ≡ c = omega (arith, l.rest k y e) in absurd (n (rw s at e)))
            (λ (q : c < k). child_gap B t j lt c k x y q)
            (le_or_lt k c);
      }

  pub look_found : (c : ℕ) → Looking B j b c → c < past_of B j → last_byte (get_or B c []) ≡ b
      → (get_or B c [] ≡ get_or B j [] ++ (b ∷ [])) × (number_in (get_or B j [] ++ (b ∷ [])) B ≡ c)
  look_found c l h e =
      let text = rw e at (child_text B t j lt c (l.child h)) in
      (text, ap (λ (p : List ℕ). number_in p B) (sym text) ∙ number_at B t.sorted c (l.child h).inside)

  pub look_none : Looking B j b (past_of B j) → In (get_or B j [] ++ (b ∷ [])) B → ⊥
  look_none l h = let f = member_child B t j lt b h in omega (arith, child-after B t j lt f.0 f.1, l.rest f.0 f.1 f.2)

-- ---- the node of a text, for a session's path

module _ (t : Table) where
  pub node_in : (p : List ℕ) → In p (beginnings t) → node_or0 t p ≡ number_in p (beginnings t)
  node_in p h = rw (lt-ltb (number_in p (beginnings t)) (length (beginnings t)) (number_in_lem p (beginnings t) h).0)

  pub node_out : (p : List ℕ) → (In p (beginnings t) → ⊥) → node_or0 t p ≡ 0
  node_out p h = let e = number_out p (beginnings t) h in rw (le-ltb (number_in p (beginnings t)) (length (beginnings t)) (omega arith))
