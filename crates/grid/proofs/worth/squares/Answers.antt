-- `grid::worth::squares` meets its contract. Two squares below 2^32 each.
-- Assumes nothing.
use Rattle.std.proofs.Common.{arith}
use Rattle.rules.proofs.Roots.{square_less}
use Rattle.grid.proofs.worth.squares.Goals as goal

pub overflow_mul-result : goal.overflow_mul-result
overflow_mul-result c = omega (arith, square_less _ 65536 c.requires.across)

pub overflow_mul-result-2 : goal.overflow_mul-result-2
overflow_mul-result-2 c = omega (arith, square_less _ 65536 c.requires.along)

pub overflow_add-result : goal.overflow_add-result
overflow_add-result c = let s = c.requires in omega (arith, square_less _ 65536 s.across, square_less _ 65536 s.along)
