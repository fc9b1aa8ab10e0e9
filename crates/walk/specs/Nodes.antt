-- The node of a text by the rules: its number among the beginnings, if it is one.
use Rattle.std.specs.Prelude.{cond, List, ℕ, ltb, length, Some, None, Ok}
use Rattle.rules.specs.Tables.{Table}
use Rattle.rules.specs.Indexes.{beginnings, number_in}
use Rattle.walk.specs.Walks.{Child, node}

abbrev pub node_of : Table → List ℕ → Child
node_of t p = cond (ltb (number_in p (beginnings t)) (length (beginnings t))) (Ok (Some (node (number_in p (beginnings t))))) (Ok None)
