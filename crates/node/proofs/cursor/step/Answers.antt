-- `node::cursor::step` meets its contract: the loop's invariant is `Stepping`, whose laws are of proofs/Steps.antt. Assumes nothing.
use borrow.Author.Rules.{rules}
use Rattle.node.proofs.Steps.{stepping_more}
use Rattle.node.proofs.cursor.step.Goals as goal

pub loop-stand-preserved : goal.loop-stand-preserved
loop-stand-preserved c = search (rules, stepping_more)
