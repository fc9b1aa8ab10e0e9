-- What a name adds to the tree of the names before it: the beginnings longer than what it shares with the name before.
use Rattle.std.specs.Prelude.{List, [], ◌∷◌, ℕ, zero, suc, length}
use Rattle.base.specs.Lists.{up_to, each_list, shared_length}
use Rattle.rules.specs.Tables.{Table, name_of}
use Rattle.rules.specs.Indexes.{new_at}

-- the name before; none before the first
abbrev pub name_before : Table → ℕ → List ℕ
name_before t zero = []
name_before t (suc i) = name_of t i

-- how many bytes a name shares with the name before
abbrev pub shared_at : Table → ℕ → ℕ
shared_at t i = shared_length (name_before t i) (name_of t i)

-- how many nodes the names before i make, with the empty one
abbrev pub nodes_before : Table → ℕ → ℕ
nodes_before t i = length ([] ∷ each_list (new_at t) (up_to i))
