-- `grid::worth::gap` meets its contract. The strip starts below 2^33.
-- Assumes nothing.
use Rattle.std.proofs.Common.{◌+◌, ◌*◌, ◌<◌, le_of_lt, mul-le-mul, arith, to_z-of_z}
use Rattle.grid.proofs.Signed.{lifted_less}
use Rattle.grid.proofs.worth.gap.Goals as goal

low-less : (c : goal.After-lift) → c.lift.result + c.args.strip * c.args.cell < 8589934592
low-less c =
    let s = c.before in
    rw (c.lift.ensures, to_z-of_z s.ranges.edge) (omega (arith, lifted_less _ s.ranges.edge, mul-le-mul (le_of_lt s.requires.below) s.requires.most))

pub overflow_mul-low : goal.overflow_mul-low
overflow_mul-low c = omega (arith, low-less c)

pub overflow_add-low : goal.overflow_add-low
overflow_add-low c = omega (arith, low-less c)

pub nearest-requires : goal.nearest-requires
nearest-requires c = (c.requires.some, low-less c.before)

pub returns : goal.returns
returns c =
    let s = c.before.before.before.before in
    rw (c.apart.ensures, c.nearest.ensures, c.lift.ensures, c.lift-at.ensures, to_z-of_z s.ranges.edge, to_z-of_z s.ranges.x)
