-- `any` keeps its promise: the text is refused, or its listing goes before.
-- Assumes nothing.
use Rattle.any.proofs.Promises.{of_refused, of_listed}
use Rattle.std.proofs.lemmas.Result.{err_from_is_err_and}
use Rattle.any.proofs.any.Goals as goal

pub returns-in_err-text_verdict : goal.returns-in_err-text_verdict
returns-in_err-text_verdict c =
    let p = err_from_is_err_and c.from_residual.result c.from_residual.ensures.1 in
    rw (p.1, p.2) (of_refused _ _ _ _ _ _ _ c.text_verdict.ensures c.in_err-text_verdict.was)

pub returns : goal.returns
returns c = of_listed _ _ _ _ _ _ _ _ _ c.text_verdict.ensures c.in_ok-text_verdict.was c.listing_of-at.ensures c.any_from.ensures
