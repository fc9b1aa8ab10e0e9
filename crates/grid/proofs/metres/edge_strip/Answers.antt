-- `grid::metres::edge_strip` meets its contract. The quotient of the difference.
-- Assumes nothing.
use Rattle.std.proofs.Common.{to_z-of_z, w64}
use borrow.Author.Rules.{sfits_of}
use Rattle.grid.proofs.metres.edge_strip.Goals as goal

pub returns : goal.returns
returns c =
    let s = c.before.before in
    let d = c.difference in
    rw (to_z-of_z {w = w64} (sfits_of c.floor_div.type_inv), c.floor_div.ensures, to_z-of_z {w = w64} (sfits_of d.type_inv), d.ensures, to_z-of_z s.ranges.edge, to_z-of_z s.ranges.origin)
