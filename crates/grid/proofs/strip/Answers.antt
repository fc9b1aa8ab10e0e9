-- `grid::strip` meets its contract: its loop's invariant is `Stepping`, whose laws are of proofs/Steps.antt.
-- Assumes nothing.
use Rattle.std.proofs.Common.{◌≡◌, ◌∙◌, arith, to_z-of_z, w64, to_z}
use Rattle.grid.proofs.Signed.{widened, wide}
use Rattle.grid.proofs.Steps.{Axis, Stepping, side_is, first_fits, first, next_fits, stepped, found_last, found_here}
use Rattle.grid.proofs.strip.Goals.{After-loop-strip}
use Rattle.grid.proofs.strip.Goals as goal

axis : (c : goal.Start) → Axis c.args.edge c.args.cell c.args.x
axis c = record { edge_fits = c.ranges.edge; cell_fits = c.ranges.cell; x_fits = c.ranges.x; inside = c.requires.1 }

-- what the loop keeps, of the arguments and not of their bits
stepping : (c : After-loop-strip) → Stepping c.args.edge c.args.cell c.args.x (to_z w64 c.loop-strip.next-bits) c.loop-strip.strip
stepping c = rw (to_z-of_z c.ranges.edge, to_z-of_z c.ranges.x) at c.loop-strip.invariant

pub overflow_cast-at : goal.overflow_cast-at
overflow_cast-at c = widened c.args.x c.ranges.x

pub overflow_cast-next : goal.overflow_cast-next
overflow_cast-next c = widened c.args.edge c.ranges.edge

pub overflow_add-next : goal.overflow_add-next
overflow_add-next c = rw (wide c.args.edge c.ranges.edge, side_is _ _ _ (axis c)) (first_fits _ _ _ (axis c))

pub loop-strip-init : goal.loop-strip-init
loop-strip-init c = rw (wide c.args.edge c.ranges.edge, to_z-of_z c.ranges.edge, to_z-of_z c.ranges.x, side_is _ _ _ (axis c), to_z-of_z (first_fits _ _ _ (axis c))) (first _ _ _ (axis c))

pub overflow_add-next-in-loop-strip : goal.overflow_add-next-in-loop-strip
overflow_add-next-in-loop-strip c =
    let kept : Stepping c.args.edge c.args.cell c.args.x (to_z w64 c.loop-strip.next-bits) c.loop-strip.strip = rw (to_z-of_z c.ranges.edge, to_z-of_z c.ranges.x) at c.loop-strip.invariant in
    next_fits _ _ _ (axis c.before.before.before) _ _ kept (omega arith)

pub loop-strip-preserved : goal.loop-strip-preserved
loop-strip-preserved c =
    let kept : Stepping c.args.edge c.args.cell c.args.x (to_z w64 c.loop-strip.next-bits) c.loop-strip.strip = rw (to_z-of_z c.ranges.edge, to_z-of_z c.ranges.x) at c.loop-strip.invariant in
    rw (to_z-of_z c.ranges.edge, to_z-of_z c.ranges.x) (stepped _ _ _ (axis c.before.before.before) _ _ kept (omega arith) c.if-at-next.false)

pub returns-then-at-next : goal.returns-then-at-next
returns-then-at-next c =
    let kept : Stepping c.args.edge c.args.cell c.args.x (to_z w64 c.loop-strip.next-bits) c.loop-strip.strip = rw (to_z-of_z c.ranges.edge, to_z-of_z c.ranges.x) at c.loop-strip.invariant in
    found_here _ _ _ (axis c.before.before.before) _ _ kept c.if-at-next.true

pub returns : goal.returns
returns c =
    let kept = stepping c in
    let all_seven : 7 ≡ c.loop-strip.strip = omega (arith, kept.few) in
    all_seven ∙ found_last _ _ _ (axis c.before.before) _ _ kept (omega arith)
