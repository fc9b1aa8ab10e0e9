-- `grid::worth::length` meets its contract. Two squares are together below 2 ^ 33.
-- Assumes nothing.
use Rattle.std.proofs.Common.{arith}
use Rattle.rules.proofs.Roots.{square_less}
use Rattle.grid.specs.Ways.{way_length}
use Rattle.grid.proofs.worth.length.Goals as goal

pub root-requires : goal.root-requires
root-requires c = let s = c.requires in omega (arith, c.squares.ensures, square_less _ 65536 s.across, square_less _ 65536 s.along)

pub returns : goal.returns
unfolding way_length
returns c = rw (c.root.ensures, c.squares.ensures)
