-- A letter typed on the nodes of a lawful set leads to the node of the longer text, and so to its session.
-- By the walk to a node's child, and since past a text that begins no name no longer one does. Assumes nothing.
use mathlib.Core.Path.{◌≡◌, refl, sym, ap, ◌∙◌, ap₂}
use mathlib.Core.Logic.{inl, ⊎_elim}
use mathlib.Core.Bool.{true, false}
use mathlib.Core.List.{List, [], ◌∷◌, ◌++◌}
use Prim.Native.Nat.{ℕ, ◌≤◌, ◌<◌}
use native.Mathlib.Omega.{arith}
use lib.Dec.{ltb}
use lib.ListN.{length}
use borrow.Table.Steps.{cases}
use borrow.Author.Tests.{eq-eqb, ne_eqb}
use Rattle.std.specs.Prelude.{Ok}
use Rattle.base.specs.Lists.{begins, In}
use Rattle.base.proofs.Tests.{le_or_lt}
use Rattle.base.proofs.Begins.{begins-append, in_or_out}
use Rattle.rules.specs.declared.Grid.{Grid}
use Rattle.rules.specs.declared.Session.{Session}
use Rattle.rules.specs.Tables.{Table, Ordered}
use Rattle.rules.specs.Names.{allowed}
use Rattle.rules.specs.Indexes.{beginnings, number_in, node_words}
use Rattle.rules.specs.Sessions.{node_or0, session_of}
use Rattle.rules.proofs.Lawful.{set_parts}
use Rattle.meaning.proofs.Tables.{beginnings-tree}
use Rattle.meaning.proofs.Walking.{node_in, node_out}
use Rattle.walk.specs.Walks.{child_in}
use Rattle.walk.specs.Nodes.{node_of}
use Rattle.walk.proofs.Lawful.{node_of_out, child_found}
use Rattle.session.specs.Strokes.{lost, next_on, lengthened, arrived, typed_on}
use Rattle.session.specs.Promises.{TableOf}
use Rattle.session.proofs.Steps.{lost_none, lost_some, next_nowhere, next_child, typed_arrived}
use Rattle.session.proofs.Texts.{node_some, path_last, len_of, session_longer}

-- the session that a letter arrives at, where it leads to the node of a text or nowhere
arrives_at : (t : Table) (q : List ℕ) (s : Session) (b : ℕ) → arrived s b (node_of t q) ≡ Ok (lengthened s b (node_or0 t q))
arrives_at t q s b = cases (ltb (number_in q (beginnings t)) (length (beginnings t))) (λ e. rw e) (λ e. rw e)

-- the empty text has a node
root_in : (t : Table) (p : List ℕ) → length p ≡ 0 → In p (beginnings t)
unfolding beginnings
root_in t [] e = inl refl
root_in t (a ∷ p) e = absurd (omega arith)

-- the letters p led nowhere exactly if they have no node
module _ (t : Table) (p : List ℕ) where
  pub lost-in : In p (beginnings t) → lost (length p) (node_or0 t p) ≡ false
  lost-in h =
      ⊎_elim
      (λ (none : length p ≤ 0). lost_none (length p) (node_or0 t p) (omega arith))
      (λ (some : 0 < length p). lost_some (length p) (node_or0 t p) (λ z. omega arith) ∙ ne_eqb (node_or0 t p) 0 (node_some t p h some))
      (le_or_lt (length p) 0)

  pub lost_out : (In p (beginnings t) → ⊥) → lost (length p) (node_or0 t p) ≡ true
  lost_out h = lost_some (length p) (node_or0 t p) (λ z. h (root_in t p z)) ∙ eq-eqb (node_or0 t p) 0 (node_out t p h)

module _ (t : Table) (g : Grid) (nodes : List ℕ) (written : begins (node_words t g) nodes ≡ true) (o : Ordered t) (p : List ℕ) (b : ℕ) where
  -- from a text that has a node, and from one that has none
  next_in : In p (beginnings t) → next_on nodes (length p) (node_or0 t p) b ≡ node_of t (p ++ (b ∷ []))
  next_in h =
      next_child (length p) (node_or0 t p) nodes b (lost-in t p h)
      ∙ ap (λ (n : ℕ). child_in nodes n b) (node_in t p h)
      ∙ child_found t g nodes written o p b h

  next_out : (In p (beginnings t) → ⊥) → next_on nodes (length p) (node_or0 t p) b ≡ node_of t (p ++ (b ∷ []))
  next_out h =
      next_nowhere (length p) (node_or0 t p) nodes b (lost_out t p h)
      ∙ sym (node_of_out t (p ++ (b ∷ [])) (λ m. h ((beginnings-tree t o).closed p (p ++ (b ∷ [])) m (begins-append p (b ∷ [])))))

  next_lawful : next_on nodes (length p) (node_or0 t p) b ≡ node_of t (p ++ (b ∷ []))
  next_lawful = ⊎_elim next_in next_out (in_or_out p (beginnings t))

  typed_lawful : length p < 24 → allowed b ≡ true → typed_on nodes (session_of t p) b ≡ Ok (session_of t (p ++ (b ∷ [])))
  typed_lawful room h =
      typed_arrived nodes (session_of t p) b (omega (arith, len_of t p)) h
      ∙ ap₂ (λ (k n : ℕ). arrived (session_of t p) b (next_on nodes k n b)) (len_of t p) (path_last t p (omega arith))
      ∙ ap (arrived (session_of t p) b) next_lawful
      ∙ arrives_at t (p ++ (b ∷ [])) (session_of t p) b
      ∙ ap Ok (session_longer t p b room)

-- so on any nodes of a lawful set
pub typed_served : (nodes : List ℕ) (t : Table) → TableOf nodes t → (p : List ℕ) (b : ℕ) → length p < 24 → allowed b ≡ true → typed_on nodes (session_of t p) b ≡ Ok (session_of t (p ++ (b ∷ [])))
typed_served nodes t of p b room h =
    let parts = set_parts t of.0 of.1 of.2 in
    typed_lawful t of.0 nodes (rw of.3 at parts.nodes) parts.table.ordered p b room h
