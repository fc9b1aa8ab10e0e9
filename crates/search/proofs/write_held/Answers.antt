-- `search::write_held` meets its contract: its loop's invariant is `Writing`, whose laws are of proofs/Writing.antt. Assumes nothing.
use borrow.Author.Rules.{rules}
use Rattle.search.proofs.Writing.{write_next}
use Rattle.search.proofs.write_held.Goals as goal

pub loop-i-preserved : goal.loop-i-preserved
loop-i-preserved c = search (rules, write_next)
