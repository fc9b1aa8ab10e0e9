-- The walk from a node to its child, and from the root to a text's node, as the code goes it on any words.
use Rattle.std.specs.Prelude.{cond, List, [], ◌∷◌, ℕ, zero, suc, ◌+◌, ◌*◌, ◌/◌, eqb, ltb, leb, length, get_or, Option, Some, None, Result, Ok, Err}
use Rattle.rules.specs.declared.Broken.{Broken}
use Rattle.rules.specs.declared.Node.{Node}

-- the words are not those of an index
abbrev pub broken : Broken
broken = record {}

-- where a walk comes to: a node, or none where there is no such node
abbrev pub Child : Type 0
Child = Result (Option Node) Broken

abbrev pub node : ℕ → Node
node n = record { 0 = n }

-- word k of node n, counted from 0; 0 outside
abbrev pub node_word : List ℕ → ℕ → ℕ → ℕ
node_word words n k = get_or words (n * 8 + k) 0

-- from sibling c on, as long as it is before past; there is fuel for each
abbrev pub siblings : List ℕ → ℕ → ℕ → ℕ → ℕ → Child
siblings words past byte zero c = Ok None
siblings words past byte (suc fuel) c =
    cond (ltb c past)
    (cond (eqb (node_word words c 1) byte) (Ok (Some (node c)))
    (cond (leb (node_word words c 4) c) (Err broken)
    (siblings words past byte fuel (node_word words c 4))))
    (Ok None)

unfoldable pub child_in : List ℕ → ℕ → ℕ → Child
child_in words above byte =
    cond (leb (length words / 8) above) (Err broken)
    (cond (ltb (length words / 8) (node_word words above 4)) (Err broken)
    (siblings words (node_word words above 4) byte (suc (node_word words above 4)) (above + 1)))

-- on from a node, where the walk came to one
abbrev pub on_from : Child → (ℕ → Child) → Child
on_from (Ok (Some n)) walk = walk n.0
on_from (Ok None) walk = Ok None
on_from (Err e) walk = Err e

unfoldable pub node_from : List ℕ → ℕ → List ℕ → Child
node_from words above [] = Ok (Some (node above))
node_from words above (b ∷ text) = on_from (child_in words above b) (λ n. node_from words n text)

abbrev pub node_in : List ℕ → List ℕ → Child
node_in words text = node_from words 0 text
