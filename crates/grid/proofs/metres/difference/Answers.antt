-- `grid::metres::difference` meets its contract. The difference of two numbers of 32 bits fits 64.
-- Assumes nothing.
use Rattle.std.proofs.Common.{to_z-of_z}
use Rattle.grid.proofs.Signed.{widened, wide, difference_fits}
use Rattle.grid.proofs.metres.difference.Goals as goal

pub overflow_cast-from : goal.overflow_cast-from
overflow_cast-from c = widened c.args.origin c.ranges.origin

pub overflow_cast-to : goal.overflow_cast-to
overflow_cast-to c = widened c.args.x c.ranges.x

pub overflow_sub-result : goal.overflow_sub-result
overflow_sub-result c =
    rw (wide c.args.x c.ranges.x, wide c.args.origin c.ranges.origin)
    (difference_fits c.args.x c.args.origin c.ranges.x c.ranges.origin)

pub returns : goal.returns
returns c =
    rw (wide c.args.x c.ranges.x, wide c.args.origin c.ranges.origin)
    (to_z-of_z (difference_fits c.args.x c.args.origin c.ranges.x c.ranges.origin))
