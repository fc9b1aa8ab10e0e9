-- `grid::metres::lift` meets its contract. A number of 32 bits plus 2^31 is not negative.
-- Assumes nothing.
use Rattle.std.proofs.Common.{nat_abs, ap, arith}
use Rattle.grid.proofs.Signed.{widened, raised, raised_back, lifted_fits, lifted_less}
use Rattle.grid.proofs.metres.lift.Goals as goal

pub overflow_cast-wide : goal.overflow_cast-wide
overflow_cast-wide c = widened c.args.x c.ranges.x

pub overflow_add-raised : goal.overflow_add-raised
overflow_add-raised c = rw (raised c.args.x c.ranges.x) (lifted_fits c.args.x c.ranges.x)

pub overflow_cast-result : goal.overflow_cast-result
overflow_cast-result c = rw (raised_back c.args.x c.ranges.x) (tt, record { fits = omega (arith, lifted_less c.args.x c.ranges.x) })

pub returns : goal.returns
returns c = ap nat_abs (raised_back c.args.x c.ranges.x)
