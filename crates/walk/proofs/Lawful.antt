-- On the words that building writes a walk finds the node of each text that begins a name, and no other; it never finds them broken.
-- By the search along siblings in the letter tree. Assumes nothing.
use mathlib.Core.Path.{◌≡◌, refl, sym, ap, ◌∙◌, subst}
use mathlib.Core.Logic.{inl, ⊎_elim}
use mathlib.Core.Bool.{true}
use mathlib.Core.List.{List, [], ◌∷◌, ◌++◌, append-nil, append_assoc}
use Prim.Native.Nat.{ℕ, zero, suc, ◌+◌, ◌*◌, ◌/◌, ◌≤◌, ◌<◌}
use native.Mathlib.Omega.{arith}
use native.Mathlib.Numerals.{add-one}
use lib.Dec.{eqb}
use lib.ListN.{length, get_or}
use borrow.Table.Steps.{cases}
use borrow.Author.Tests.{lt-ltb, le-ltb, eqb-true, eqb-false}
use Rattle.std.specs.Prelude.{Some, None, Ok}
use Rattle.base.specs.Lists.{begins, In}
use Rattle.base.proofs.Tests.{le_or_lt}
use Rattle.base.proofs.Members.{get_or_in}
use Rattle.base.proofs.Begins.{begins-at, begins-length, begins-append, in_or_out}
use Rattle.rules.specs.declared.Grid.{Grid}
use Rattle.rules.specs.Tables.{Table, Ordered}
use Rattle.rules.specs.Indexes.{beginnings, number_in, last_byte, past_of, node_row, node_words, node_count}
use Rattle.meaning.specs.Trees.{Tree, Looking, text_of}
use Rattle.meaning.proofs.Tree.{number_in_lem, number_out}
use Rattle.meaning.proofs.Tables.{beginnings-tree}
use Rattle.meaning.proofs.Words.{nodes_length, node_word_lem}
use Rattle.meaning.proofs.Children.{past_bounds, child-past}
use Rattle.meaning.proofs.Walking.{look_start, look_next, look_found, look_none}
use Rattle.walk.specs.Walks.{Child, node, node_word, siblings, child_in, on_from, node_from, node_in}
use Rattle.walk.specs.Nodes.{node_of}
use Rattle.walk.proofs.Steps.{siblings-past, siblings_here, siblings_next, child-siblings}

-- ---- the node of a text

module _ (t : Table) (p : List ℕ) where
  pub node_of_in : In p (beginnings t) → node_of t p ≡ Ok (Some (node (number_in p (beginnings t))))
  node_of_in h = rw (lt-ltb (number_in p (beginnings t)) (length (beginnings t)) (number_in_lem p (beginnings t) h).0)

  pub node_of_out : (In p (beginnings t) → ⊥) → node_of t p ≡ Ok None
  node_of_out h =
      let e = number_out p (beginnings t) h in
      rw (le-ltb (number_in p (beginnings t)) (length (beginnings t)) (omega arith))

-- a search among node j's children for the byte b, from sibling c on, finds what is there
abbrev Finds : Table → List ℕ → ℕ → ℕ → ℕ → ℕ → Type 0
Finds t words j b fuel c = siblings words (past_of (beginnings t) j) b fuel c ≡ node_of t (text_of t j ++ (b ∷ []))

module _ (t : Table) (g : Grid) (words : List ℕ) (written : begins (node_words t g) words ≡ true) where
  -- ---- the words

  pub node_row_lem : (j k : ℕ) → j < node_count t → k < 8 → node_word words j k ≡ get_or (node_row t g j) k 0
  node_row_lem j k h l = begins-at (node_words t g) words (j * 8 + k) 0 written (omega (arith, nodes_length t g)) ∙ node_word_lem t g j k h l

  pub nodes_within : node_count t ≤ length words / 8
  nodes_within = omega (arith, nodes_length t g, begins-length (node_words t g) words written)

  module _ (o : Ordered t) where
    tree : Tree (beginnings t)
    tree = beginnings-tree t o

    -- ---- from a node to its child

    module _ (j : ℕ) (inside : j < node_count t) (b : ℕ) where
      -- one turn, where the next one finds what is there
      turn : (fuel c : ℕ) → Looking (beginnings t) j b c → past_of (beginnings t) j < c + suc fuel
          → ((n : ℕ) → Looking (beginnings t) j b n → past_of (beginnings t) j < n + fuel → Finds t words j b fuel n)
          → Finds t words j b (suc fuel) c
      turn fuel c l enough rest =
          ⊎_elim
          (λ (h : past_of (beginnings t) j ≤ c).
          let ended : c ≡ past_of (beginnings t) j = omega (arith, l.within) in
          siblings-past words (past_of (beginnings t) j) b c (suc fuel) h
          ∙ sym (node_of_out t (text_of t j ++ (b ∷ [])) (look_none (beginnings t) tree j inside b (subst (Looking (beginnings t) j b) ended l))))
          (λ h. let last = last_byte (text_of t c) in cases (eqb last b) (λ q. here h (eqb-true last b q)) (λ q. next h (eqb-false last b q)))
          (le_or_lt (past_of (beginnings t) j) c)
        where
          here : c < past_of (beginnings t) j → last_byte (text_of t c) ≡ b → Finds t words j b (suc fuel) c
          here h e =
              let k = (l.child h).inside in
              let f = look_found (beginnings t) tree j inside b c l h e in
              siblings_here words (past_of (beginnings t) j) b c fuel h (node_row_lem c 1 k (omega arith) ∙ e)
              ∙ ap (λ (n : ℕ). Ok (Some (node n))) (sym f.1)
              ∙ sym (node_of_in t (text_of t j ++ (b ∷ [])) (rw f.0 at (get_or_in [] (beginnings t) c k)))

          next : c < past_of (beginnings t) j → (last_byte (text_of t c) ≡ b → ⊥) → Finds t words j b (suc fuel) c
          next h other =
              let k = (l.child h).inside in
              let far = child-past (beginnings t) tree j inside c (l.child h) in
              let w : node_word words c 4 ≡ past_of (beginnings t) c = node_row_lem c 4 k (omega arith) in
              siblings_next words (past_of (beginnings t) j) b c fuel h (λ e. other (sym (node_row_lem c 1 k (omega arith)) ∙ e)) (omega arith)
              ∙ ap (siblings words (past_of (beginnings t) j) b fuel) w
              ∙ rest (past_of (beginnings t) c) (look_next (beginnings t) tree j inside b c l h other) (omega arith)

      turns : (fuel c : ℕ) → Looking (beginnings t) j b c → past_of (beginnings t) j < c + fuel → Finds t words j b fuel c
      turns zero c l enough = absurd (omega (arith, l.within))
      turns (suc fuel) c l enough = turn fuel c l enough (turns fuel)

      child-at : child_in words j b ≡ node_of t (text_of t j ++ (b ∷ []))
      child-at =
          let w : node_word words j 4 ≡ past_of (beginnings t) j = node_row_lem j 4 inside (omega arith) in
          let bounds = past_bounds (beginnings t) tree.sorted j inside in
          child-siblings words j b (omega (arith, nodes_within)) (omega (arith, nodes_within))
          ∙ ap (λ (n : ℕ). siblings words n b (suc n) (j + 1)) w
          ∙ turns (suc (past_of (beginnings t) j)) (j + 1) (rw add-one (look_start (beginnings t) tree j inside b)) (omega arith)

    pub child_found : (p : List ℕ) (b : ℕ) → In p (beginnings t) → child_in words (number_in p (beginnings t)) b ≡ node_of t (p ++ (b ∷ []))
    child_found p b h =
        let n = number_in_lem p (beginnings t) h in
        child-at (number_in p (beginnings t)) n.0 b ∙ ap (λ (q : List ℕ). node_of t (q ++ (b ∷ []))) n.1

    -- ---- from a node on, and from the root

    walk_found : (p text : List ℕ) → In p (beginnings t) → node_from words (number_in p (beginnings t)) text ≡ node_of t (p ++ text)
    unfolding node_from
    walk_found p [] h = rw (append-nil p) (sym (node_of_in t p h))
    walk_found p (b ∷ text) h =
        let longer : begins (p ++ (b ∷ [])) (p ++ (b ∷ text)) ≡ true = rw (append_assoc p (b ∷ []) text) at (begins-append (p ++ (b ∷ [])) text) in
        ap (λ (c : Child). on_from c (λ n. node_from words n text)) (child_found p b h)
        ∙ ⊎_elim
        (λ (k : In (p ++ (b ∷ [])) (beginnings t)). rw (node_of_in t (p ++ (b ∷ [])) k) (walk_found (p ++ (b ∷ [])) text k ∙ ap (node_of t) (append_assoc p (b ∷ []) text)))
        (λ k. rw (node_of_out t (p ++ (b ∷ [])) k) (sym (node_of_out t (p ++ (b ∷ text)) (λ m. k (tree.closed (p ++ (b ∷ [])) (p ++ (b ∷ text)) m longer)))))
        (in_or_out (p ++ (b ∷ [])) (beginnings t))

    pub node_found : (text : List ℕ) → node_in words text ≡ node_of t text
    unfolding beginnings
    node_found text = walk_found [] text (inl refl)
