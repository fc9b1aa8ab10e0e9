-- `fill` meets its contract: by what its walks leave.
-- Assumes nothing.
use Rattle.range.proofs.Fills.{fill_breaks, fill_over, fill_keeps, fill_writes, fill_whole}
use Rattle.std.proofs.lemmas.Result.{err_from_is_err_and}
use borrow.Author.Rules.{rules}
use Rattle.range.proofs.fill.Goals as goal

pub returns-in_err-matches : goal.returns-in_err-matches
returns-in_err-matches c =
    let p = err_from_is_err_and c.from_residual.result c.from_residual.ensures.1 in
    rw p.1 (fill_breaks _ _ _ _ _ _ _ _ c.gather.ensures _ p.2 _ c.in_err-matches.was)

pub returns-then-found-count : goal.returns-then-found-count
returns-then-found-count c = fill_over _ _ _ _ _ _ _ _ c.gather.ensures _ c.in_ok-matches.was c.if-found-count.true

pub returns-then-count-le-NEAR : goal.returns-then-count-le-NEAR
returns-then-count-le-NEAR c = fill_keeps _ _ _ _ _ _ _ _ c.gather.ensures _ c.in_ok-matches.was c.if-found-count.false (search rules) _ c.copy_from_slice.ensures.after

pub returns-in_err-gather : goal.returns-in_err-gather
returns-in_err-gather c = fill_whole _ _ _ _ _ _ _ _ c.gather.ensures _ c.in_ok-matches.was c.if-found-count.false _ _ c.gather-else-count-le-NEAR.ensures _ c.in_err-gather.was

pub returns-in_ok-gather : goal.returns-in_ok-gather
returns-in_ok-gather c = fill_writes _ _ _ _ _ _ _ _ c.gather.ensures _ c.in_ok-matches.was c.if-found-count.false _ _ c.gather-else-count-le-NEAR.ensures
