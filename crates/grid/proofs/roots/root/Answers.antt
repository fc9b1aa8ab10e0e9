-- `grid::roots::root` meets its contract: its loop's invariant is `Rooting`, whose laws are of proofs/Rooting.antt. Assumes nothing.
use Rattle.std.proofs.Common.{arith, rules}
use Rattle.grid.proofs.Rooting.{begin, next_fits, square_fits, bit_added, bit_left, rooted}
use Rattle.grid.proofs.roots.root.Goals as goal

pub loop-bit-init : goal.loop-bit-init
loop-bit-init c = search (rules, begin)

pub overflow_add-next : goal.overflow_add-next
overflow_add-next c = omega (arith, next_fits _ _ _ c.loop-bit.invariant c.loop-bit-test.true)

pub overflow_mul-next : goal.overflow_mul-next
overflow_mul-next c = omega (arith, square_fits _ _ _ c.loop-bit.invariant c.loop-bit-test.true)

pub loop-bit-preserved-then-next-n : goal.loop-bit-preserved-then-next-n
loop-bit-preserved-then-next-n c = bit_added _ _ _ c.loop-bit.invariant c.loop-bit-test.true (omega (arith, c.if-next-n.true))

pub loop-bit-preserved : goal.loop-bit-preserved
loop-bit-preserved c = bit_left _ _ _ c.loop-bit.invariant c.loop-bit-test.true (omega (arith, c.if-next-n.false))

pub returns : goal.returns
returns c = search (rules, rooted)
