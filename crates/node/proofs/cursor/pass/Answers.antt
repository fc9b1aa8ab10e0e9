-- `node::cursor::pass` meets its contract: the loop's invariant is `Passing`, whose laws are of proofs/Placing.antt. Assumes nothing.
use borrow.Author.Rules.{rules}
use native.Mathlib.Omega.{arith}
use Rattle.node.proofs.Placing.{passing_more, next_small}
use Rattle.node.proofs.cursor.pass.Goals as goal

pub overflow_add-next : goal.overflow_add-next
overflow_add-next c = omega (arith, next_small _ _ c.loop-stand.stand c.region_at-slot.result c.requires.placed c.loop-stand.invariant.places (search rules) c.region_at-slot.ensures.1)

pub loop-stand-preserved : goal.loop-stand-preserved
loop-stand-preserved c = search (rules, passing_more)
