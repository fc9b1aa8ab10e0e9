-- `grid::edge_lawful` meets its contract. The signed tests say the same of the bits that are read back.
-- Assumes nothing.
use Rattle.std.proofs.Common.{not, negsuc, ap, ◌∙◌, to_z-of_z}
use Rattle.rules.specs.Places.{edge_lawful}
use Rattle.grid.proofs.Signed.{turned}
use Rattle.grid.proofs.edge_lawful.Goals as goal

pub returns-then-edge : goal.returns-then-edge
unfolding edge_lawful
returns-then-edge c =
    let s = c.before in
    rw (turned s.args.edge (negsuc 999999) ∙ ap not (rw (to_z-of_z s.ranges.edge) at c.if-edge.true))

pub returns : goal.returns
unfolding edge_lawful
returns c =
    let s = c.before in
    rw (to_z-of_z s.ranges.edge, turned s.args.edge (negsuc 999999) ∙ ap not (rw (to_z-of_z s.ranges.edge) at c.if-edge.false))
