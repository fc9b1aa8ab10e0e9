-- `node::tally::end_of` meets its contract: the loop's invariant is `Ending`, whose laws are of proofs/Ends.antt. Assumes nothing.
use borrow.Author.Rules.{rules}
use Rattle.node.proofs.Ends.{ending, ending_here, ending_last, ended}
use Rattle.node.proofs.tally.end_of.Goals.{then-loop-past-test+else-bytes-shared, else-loop-past-test}
use Rattle.node.proofs.tally.end_of.Goals as goal

pub returns-then-shared-first : goal.returns-then-shared-first
returns-then-shared-first c = search (rules, ended)

pub loop-past-init : goal.loop-past-init
loop-past-init c = search (rules, ending)

pub returns : goal.returns
returns c =
    elim c.loop-past-test.branch [
      | then-loop-past-test+else-bytes-shared w ↦ ending_here _ _ _ _ c.loop-past.invariant w.loop-past-test.true w.if-bytes-shared.false
      | else-loop-past-test w ↦ ending_last _ _ _ _ c.loop-past.invariant w.loop-past-test.false
    ]
