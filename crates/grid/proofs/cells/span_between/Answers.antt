-- `grid::cells::span_between` meets its contract. By the tests of the definition; a clipped end is at most 7.
-- Assumes nothing.
use Rattle.std.proofs.Common.{ap, ◌∙◌, arith, to_z-of_z}
use Rattle.grid.specs.Cells.{span_of, clip}
use Rattle.grid.proofs.Spans.{clip_less}
use Rattle.grid.proofs.cells.span_between.Goals.{then-to-lt0-via-then-to-lt0, then-to-lt0-via-else-to-lt0+then-from-gt-LAST}
use Rattle.grid.proofs.cells.span_between.Goals as goal

pub returns-then-to-lt0 : goal.returns-then-to-lt0
unfolding span_of
returns-then-to-lt0 c =
    elim c.then-to-lt0.branch [
      | then-to-lt0-via-then-to-lt0 w ↦ rw (rw (to_z-of_z c.ranges.to) at w.if-to-lt0.true)
      | then-to-lt0-via-else-to-lt0+then-from-gt-LAST w ↦ rw (rw (to_z-of_z c.ranges.to) at w.if-to-lt0.false, rw (to_z-of_z c.ranges.from) at w.if-from-gt-LAST.true)
    ]

pub overflow_add-result : goal.overflow_add-result
overflow_add-result c = omega (arith, clip_less c.args.to, c.clipped-last.ensures ∙ ap clip (to_z-of_z c.ranges.to))

pub returns : goal.returns
unfolding span_of
returns c =
    let s = c.before.before.before.before in
    let f = c.clipped-first.ensures ∙ ap clip (to_z-of_z s.ranges.from) in
    let t = c.clipped-last.ensures ∙ ap clip (to_z-of_z s.ranges.to) in
    rw (rw (to_z-of_z s.ranges.to) at c.if-to-lt0.false, rw (to_z-of_z s.ranges.from) at c.if-from-gt-LAST.false, f, t)
