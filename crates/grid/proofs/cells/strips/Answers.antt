-- `grid::cells::strips` meets its contract. Both edges are floored.
-- Assumes nothing.
use Rattle.std.proofs.Common.{to_z-of_z, w64}
use borrow.Author.Rules.{sfits_of}
use Rattle.grid.specs.Cells.{edges_span}
use Rattle.grid.proofs.cells.strips.Goals as goal

pub returns : goal.returns
unfolding edges_span
returns c =
    let s = c.before.before.before in
    let f = c.edge_strip-from in
    let t = c.edge_strip-to in
    rw (c.span_between.ensures, to_z-of_z {w = w64} (sfits_of f.type_inv), to_z-of_z {w = w64} (sfits_of t.type_inv), f.ensures, t.ensures, to_z-of_z s.ranges.low, to_z-of_z s.ranges.high, to_z-of_z s.ranges.origin)
