-- `walk::child_of` meets its contract: the loop's invariant is `Searching`, whose laws are of proofs/Steps.antt. Assumes nothing.
use borrow.Author.Rules.{rules}
use Prim.Native.Nat.{◌+◌, ◌*◌}
use native.Mathlib.Omega.{arith}
use Rattle.walk.proofs.Steps.{outside, too_far, begin}
use Rattle.walk.proofs.child_of.Goals as goal

pub returns-then-all-p : goal.returns-then-all-p
returns-then-all-p c = search (rules, outside)

pub returns-then-all-past : goal.returns-then-all-past
returns-then-all-past c = search (rules, too_far)

pub loop-c-init : goal.loop-c-init
loop-c-init c = begin _ _ _ c.if-all-p.false c.if-all-past.false (omega (arith, c.type_inv.nodes (c.args.above.0 * 8 + 4)))
