-- What a search takes for granted, part by part; and that a key has room for what is found in the grid.
-- Assumes nothing.
use mathlib.Core.Path.{◌≡◌}
use mathlib.Core.Bool.{true}
use Prim.Native.Nat.{ℕ, ◌≤◌, ◌<◌}
use native.Mathlib.Omega.{arith}
use borrow.Author.Tests.{leb-true}
use Rattle.base.proofs.Tests.{every-at}
use Rattle.rules.specs.declared.Grid.{Grid}
use Rattle.rules.specs.declared.Ranking.{Ranking}
use Rattle.rules.specs.Places.{in_grid}
use Rattle.rules.specs.Worth.{diagonal}
use Rattle.rules.specs.Questions.{ranking_lawful}
use Rattle.grid.specs.declared.worth.Way.{Way}
use Rattle.grid.specs.Ways.{way_length, WayIn}
use Rattle.grid.proofs.Ways.{diagonal_most, length_most}
use Rattle.search.specs.Asked.{Asks}
use Rattle.search.specs.Searches.{Keyable}

module _ (g : Grid) (q : Ranking) (a : Asks g q) where
  pub asked-inside : in_grid g q.place ≡ true
  unfolding ranking_lawful
  asked-inside = every-at _ 0 a.ranking

  pub some_asked : 0 < q.k
  unfolding ranking_lawful
  some_asked = leb-true 1 q.k (every-at _ 2 a.ranking)

  pub few_asked : q.k ≤ 16
  unfolding ranking_lawful
  few_asked = leb-true q.k 16 (every-at _ 3 a.ranking)

  module _ (D : ℕ) (whole : D ≡ diagonal g) where
    pub keyable : (score stand : ℕ) (w : Way) → score ≤ 1000 → stand < 1024 → WayIn g w → Keyable D q score (way_length w) stand
    unfolding ranking_lawful
    keyable score stand w h below inside =
        record {
          weighs = record {
            whole = omega (arith, diagonal_most g a.grid);
            weight = leb-true q.weight 16 (every-at _ 1 a.ranking);
            score = h;
          };
          near = omega (arith, length_most g w inside);
          below = below;
        }
