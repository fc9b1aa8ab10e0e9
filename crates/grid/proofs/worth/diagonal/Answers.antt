-- `grid::worth::diagonal` meets its contract. 128 × 8,192 × 8,192 is below 2 ^ 34.
-- Assumes nothing.
use Rattle.std.proofs.Common.{arith, rules}
use Rattle.rules.specs.Worth.{diagonal², diagonal}
use Rattle.grid.proofs.Squares.{cell_squared}
use Rattle.rules.proofs.Places.{cell_small}
use Rattle.grid.proofs.worth.diagonal.Goals as goal

pub overflow_mul-cell : goal.overflow_mul-cell
overflow_mul-cell c = omega (arith, cell_squared _ (cell_small _ c.requires))

pub overflow_mul-cell-2 : goal.overflow_mul-cell-2
overflow_mul-cell-2 c = omega (arith, cell_squared _ (cell_small _ c.requires))

pub root-requires : goal.root-requires
root-requires c = omega (arith, cell_squared _ (cell_small _ c.requires))

pub returns : goal.returns
unfolding diagonal diagonal²
returns c = search rules
