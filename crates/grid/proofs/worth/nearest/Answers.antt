-- `grid::worth::nearest` meets its contract. Three places where x can lie.
-- Assumes nothing.
use Rattle.std.proofs.Common.{rules}
use Rattle.grid.proofs.Distances.{nearest_first, nearest_last, nearest_here}
use Rattle.grid.proofs.worth.nearest.Goals as goal

pub returns-then-x-low : goal.returns-then-x-low
returns-then-x-low c = search (rules, nearest_first)

pub returns-then-past-x : goal.returns-then-past-x
returns-then-past-x c = search (rules, nearest_last)

pub returns : goal.returns
returns c = search (rules, nearest_here)
