-- `letters::ranked_typed` keeps its promise: the letters are refused, or the path says where they came to (proofs/Ways.antt). Assumes nothing.
use mathlib.Core.Path.{sym}
use Rattle.std.proofs.lemmas.Result.{err_from_is_err_and}
use Rattle.letters.proofs.Ways.{ranked_refused, ranked_reached}
use Rattle.letters.proofs.ranked_typed.Goals as goal

pub returns-in_err-letters_verdict : goal.returns-in_err-letters_verdict
returns-in_err-letters_verdict c =
    let p = err_from_is_err_and c.from_residual.result c.from_residual.ensures.1 in
    rw (p.1, p.2) (ranked_refused _ _ _ _ _ _ _ c.in_err-letters_verdict.ensures)

pub returns : goal.returns
returns c = ranked_reached _ _ _ _ _ _ _ _ _ (sym c.in_ok-letters_verdict.ensures) c.listing_at-at.ensures c.reached.ensures c.ranked_from.ensures
