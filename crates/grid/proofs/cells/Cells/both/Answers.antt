-- `grid::cells::Cells::both` meets its contract. The definition, field by field.
-- Assumes nothing.
use Rattle.std.proofs.Common.{refl}
use Rattle.grid.specs.Cells.{both_cells}
use Rattle.grid.proofs.cells.Cells.both.Goals as goal

pub returns : goal.returns
unfolding both_cells
returns c = refl
