-- What a search goes by.
use Rattle.std.specs.Prelude.{◌≡◌, true, List, ℕ, ℤ, ◌≤◌, length}
use Rattle.rules.specs.declared.Grid.{Grid}
use Rattle.rules.specs.declared.Ranking.{Ranking}
use Rattle.rules.specs.Places.{grid_lawful}
use Rattle.rules.specs.Worth.{diagonal}
use Rattle.rules.specs.Questions.{ranking_lawful}

-- what a search takes for granted: its callers have tested it
pub record Asks (g : Grid) (q : Ranking) : Type 0 where
  pub grid : grid_lawful g ≡ true
  pub ranking : ranking_lawful g q ≡ true

-- and k places in each room
pub record Searchable (g : Grid) (q : Ranking) (found values : List ℕ) : Type 0 where
  pub asks : Asks g q
  pub stands_fit : q.k ≤ length found
  pub values_fit : q.k ≤ length values

-- with the grid's diagonal reckoned
pub record Ready (g : Grid) (D : ℕ) (q : Ranking) : Type 0 where
  pub asks : Asks g q
  pub whole : D ≡ diagonal g

-- columns of one length
pub record Level (east north : List ℤ) (score : List ℕ) : Type 0 where
  pub norths : length north ≡ length east
  pub scores : length score ≡ length east
