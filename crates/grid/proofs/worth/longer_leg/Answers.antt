-- `worth::longer_leg` is the larger of the two.
-- Assumes nothing.
use Rattle.std.proofs.Common.{rules}
use Rattle.grid.specs.Ways.{longer_leg}
use Rattle.grid.proofs.worth.longer_leg.Goals as goal

pub returns : goal.returns
unfolding longer_leg
returns c = search rules
