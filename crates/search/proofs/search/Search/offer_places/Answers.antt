-- `Search::offer_places` meets its contract: its loop's invariant is `Offering`, whose laws are of proofs/Offering.antt. Assumes nothing.
use borrow.Author.Rules.{rules}
use Rattle.std.proofs.lemmas.Result.{err_from_is_err_and}
use Rattle.base.proofs.Members.{drop-take}
use Rattle.search.proofs.Offering.{offer_next, offer_stop, offer_done}
use Rattle.search.proofs.search.Search.offer_places.Goals as goal

pub returns-in_err-offer_stand : goal.returns-in_err-offer_stand
returns-in_err-offer_stand c =
    let a = c.args in
    let p = err_from_is_err_and c.from_residual.result c.from_residual.ensures.1 in
    rw (drop-take a.first.0 a.past.0 a.self.now.order.now, p.1, p.2) (offer_stop _ _ _ _ _ _ _ c.loop-stand.invariant c.loop-stand-test.true _ _ c.offer_stand.ensures _ c.in_err-offer_stand.was)

pub loop-stand-preserved : goal.loop-stand-preserved
loop-stand-preserved c = search (rules, offer_next)

pub returns : goal.returns
returns c = let a = c.args in rw (drop-take a.first.0 a.past.0 a.self.now.order.now) (search (rules, offer_done))
