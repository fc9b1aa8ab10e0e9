-- `gather::gather` meets its contract: the loop's invariant is Sweeping, by the regions that are still to come.
-- Assumes nothing.
use mathlib.Core.Path.{refl}
use Rattle.std.proofs.lemmas.Result.{err_from_is_err_and}
use Rattle.grid.proofs.Listed.{listed_few}
use Rattle.runs.proofs.Walks.{listed_next}
use Rattle.range.proofs.Turns.{sweep_begins, sweep_unread, sweep_room, sweep_on, sweep_breaks, sweep_ends}
use borrow.Author.Rules.{rules}
use Rattle.range.proofs.gather.gather.Goals as goal

pub loop-region-init : goal.loop-region-init
loop-region-init c = search (rules, sweep_begins, listed_few)

pub run_of-requires : goal.run_of-requires
run_of-requires c = listed_next _ _ _ c.in-Some.ensures.steps _ refl

pub returns-in_err-run : goal.returns-in_err-run
returns-in_err-run c =
    let p = err_from_is_err_and c.from_residual.result c.from_residual.ensures.1 in
    rw p.1 (sweep_unread _ _ _ _ _ _ c.args.runs.ready _ _ _ c.loop-region.invariant _ _ c.in-Some.ensures.steps _ c.run_of.ensures.seen _ c.in_err-run.was)

pub gather_run-requires : goal.gather_run-requires
gather_run-requires c =
    sweep_room _ _ _ _ _ _ c.args.runs.ready _ _ _ c.loop-region.invariant _ _ c.in-Some.ensures.steps _ c.run_of.ensures.seen _ c.in_ok-run.was

pub returns-in_err-n : goal.returns-in_err-n
returns-in_err-n c =
    let p = err_from_is_err_and c.from_residual-in_err-n.result c.from_residual-in_err-n.ensures.1 in
    rw p.1 (sweep_breaks _ _ _ _ _ _ c.args.runs.ready _ _ _ c.loop-region.invariant _ _ c.in-Some.ensures.steps _ c.run_of.ensures.seen _ c.in_ok-run.was _ _ _ c.gather_run.ensures c.in_err-n.was)

pub loop-region-preserved : goal.loop-region-preserved
loop-region-preserved c =
    sweep_on _ _ _ _ _ _ c.args.runs.ready _ _ _ c.loop-region.invariant _ _ c.in-Some.ensures.steps _ c.run_of.ensures.seen _ c.in_ok-run.was _ _ _ c.gather_run.ensures c.in_ok-n.was

pub returns : goal.returns
returns c = sweep_ends _ _ _ _ _ _ c.args.runs.ready _ _ _ c.loop-region.invariant c.in-None.ensures.steps.0
