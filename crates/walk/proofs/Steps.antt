-- The search among siblings and the walk to a text's node, by what is left of them, on any words.
-- Assumes nothing.
use mathlib.Core.Path.{◌≡◌, refl}
use mathlib.Core.List.{List}
use Prim.Native.Nat.{ℕ, zero, suc, ◌+◌, ◌/◌, ◌≤◌, ◌<◌}
use native.Mathlib.Omega.{arith}
use lib.ListN.{length, drop}
use borrow.Author.Tests.{lt-ltb, le-ltb, le-leb, lt-leb, eq-eqb, ne_eqb}
use Rattle.std.specs.Prelude.{Some, None, Ok, Err}
use Rattle.rules.specs.Names.{folded_text}
use Rattle.walk.specs.Walks.{broken, node, node_word, siblings, child_in, node_from, node_in}

-- the search for the child stands at c: from here it gives what it gives from the start, and there is fuel for all before past
pub record Searching (words : List ℕ) (above byte past c : ℕ) : Type 0 where
  pub within : past ≤ length words / 8
  pub small : past < 4294967296
  pub fuel : ℕ
  pub enough : past < c + fuel
  pub same : child_in words above byte ≡ siblings words past byte fuel c

module _ (words : List ℕ) (past byte c : ℕ) where
  pub siblings-past : (fuel : ℕ) → past ≤ c → siblings words past byte fuel c ≡ Ok None
  siblings-past zero h = refl
  siblings-past (suc fuel) h = rw (le-ltb _ _ h)

  module _ (fuel : ℕ) (more : c < past) where
    pub siblings_here : node_word words c 1 ≡ byte → siblings words past byte (suc fuel) c ≡ Ok (Some (node c))
    siblings_here e = rw (lt-ltb _ _ more, eq-eqb _ _ e)

    module _ (other : node_word words c 1 ≡ byte → ⊥) where
      pub siblings_next : c < node_word words c 4 → siblings words past byte (suc fuel) c ≡ siblings words past byte fuel (node_word words c 4)
      siblings_next h = rw (lt-ltb _ _ more, ne_eqb _ _ other, lt-leb _ _ h)

module _ (words : List ℕ) (above byte : ℕ) where
  pub outside : length words / 8 ≤ above → Err broken ≡ child_in words above byte
  unfolding child_in
  outside h = rw (le-leb _ _ h)

  module _ (inside : above < length words / 8) where
    pub too_far : length words / 8 < node_word words above 4 → Err broken ≡ child_in words above byte
    unfolding child_in
    too_far h = rw (lt-leb _ _ inside, lt-ltb _ _ h)

    pub child-siblings : node_word words above 4 ≤ length words / 8 → child_in words above byte ≡ siblings words (node_word words above 4) byte (suc (node_word words above 4)) (above + 1)
    unfolding child_in
    child-siblings h = rw (lt-leb _ _ inside, le-ltb _ _ h)

    pub begin : node_word words above 4 ≤ length words / 8 → node_word words above 4 < 4294967296 → Searching words above byte (node_word words above 4) (above + 1)
    begin h s = record { within = h; small = s; fuel = suc (node_word words above 4); enough = omega arith; same = child-siblings h }

-- the walk to a typed text's node stands at node n after i letters: from here it goes on with the rest
pub record Walking (words text : List ℕ) (n i : ℕ) : Type 0 where
  pub within : i ≤ length text
  pub rest : node_in words (folded_text text) ≡ node_from words n (folded_text (drop i text))
