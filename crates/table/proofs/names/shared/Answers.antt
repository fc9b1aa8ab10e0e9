-- `names::shared` finds the common beginning: the invariant is Sharing.
-- Assumes nothing.
use borrow.Author.Rules.{rules}
use Rattle.base.proofs.Begins.{begin, step, differ, ended_shorter}
use Rattle.table.proofs.names.shared.Goals as goal

pub loop-i-init : goal.loop-i-init
loop-i-init c = search (rules, begin)

pub returns-then-a-i : goal.returns-then-a-i
returns-then-a-i c = search (rules, differ)

pub loop-i-preserved : goal.loop-i-preserved
loop-i-preserved c = search (rules, step)

pub returns : goal.returns
returns c = search (rules, ended_shorter)
