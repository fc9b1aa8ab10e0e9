-- `node::tally::regions_under` meets its contract: the loop's invariant is `Ending` and `Marking`, whose laws are of proofs/Ends.antt and
-- proofs/Held.antt. Assumes nothing.
use borrow.Author.Tests.{leb-true}
use borrow.Author.Rules.{rules}
use Rattle.node.proofs.Ends.{ending, ending_more}
use Rattle.node.proofs.Held.{marking, marking_more, marked_none}
use Rattle.node.proofs.tally.regions_under.Goals as goal

pub returns-then-columns-first : goal.returns-then-columns-first
returns-then-columns-first c = search (rules, marked_none)

pub loop-past-init : goal.loop-past-init
loop-past-init c = (ending _ _ _ (search rules), marking_more _ _ _ _ _ (marking _ _) c.region_at.ensures.0 c.region_at.ensures.1)

pub loop-past-preserved : goal.loop-past-preserved
loop-past-preserved c = search (rules, ending_more, leb-true, marking_more)
