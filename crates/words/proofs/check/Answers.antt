-- `words::check` meets its contract: the loop's invariant is `Checking`, whose laws are of proofs/Checks.antt. Assumes nothing.
use Rattle.words.proofs.Walks.{blank, carrying, root-trail}
use Rattle.words.proofs.Checks.{checking, checking_not, checking_more, checking_end}
use mathlib.Core.Path.{refl}
use Rattle.words.proofs.check.Goals as goal

pub loop-here-init : goal.loop-here-init
loop-here-init c =
    let p = c.args.columns.lawful in
    let r = c.root-here.ensures in
    let places = c.places_of.ensures in
    checking (root-trail c.places_of.result r) r p c.count_nodes-all.ensures (carrying p r c.count_nodes-all.ensures places (blank _))

pub returns-in_err-here : goal.returns-in_err-here
returns-in_err-here c = rw c.from_residual.ensures (checking_not c.loop-here.invariant c.loop-here-test.true (c.check_node.ensures.different c.in_err-here.was))

pub loop-here-preserved : goal.loop-here-preserved
loop-here-preserved c =
    let same = c.check_node.ensures.same _ c.in_ok-here.was in
    checking_more c.loop-here.invariant c.loop-here-test.true same.0 same.1

pub returns : goal.returns
returns c = checking_end c.loop-here.invariant refl c.count_nodes-all.ensures c.loop-here-test.false
