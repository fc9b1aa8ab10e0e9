-- `first::first_in` meets its contract: by what is left to look at (proofs/Scans.antt).
-- Assumes nothing.
use mathlib.Core.Path.{refl}
use Rattle.std.proofs.lemmas.Result.{err_from_is_err_and}
use Rattle.runs.proofs.Walks.{listed_next}
use Rattle.any.proofs.Scans.{scan_unread, run_begins, scan_breaks, scan_hits, scan_misses, run_ends, scan_ends}
use borrow.Author.Rules.{rules}
use Rattle.any.proofs.first.first_in.Goals as goal

pub loop-region-init : goal.loop-region-init
loop-region-init c = search rules

pub run_of-requires : goal.run_of-requires
run_of-requires c = listed_next _ _ _ c.in-Some.ensures.steps _ refl

pub returns-in_err-stand-items : goal.returns-in_err-stand-items
returns-in_err-stand-items c =
    let p = err_from_is_err_and c.from_residual.result c.from_residual.ensures.1 in
    rw (p.1, p.2) (scan_unread _ _ _ _ _ _ c.loop-region.invariant _ _ c.in-Some.ensures.steps _ c.run_of.ensures.seen c.args.runs.ready _ c.in_err-stand-items.was)

pub loop-stand-init : goal.loop-stand-init
loop-stand-init c = run_begins _ _ _ _ _ _ c.loop-region.invariant _ _ c.in-Some.ensures.steps _ c.run_of.ensures.seen _ c.in_ok-stand-items.was

pub returns-in_err-sight : goal.returns-in_err-sight
returns-in_err-sight c =
    let p = err_from_is_err_and c.from_residual-in_err-sight.result c.from_residual-in_err-sight.ensures.1 in
    rw (p.1, p.2) (scan_breaks _ _ _ _ _ _ _ c.loop-stand.invariant c.loop-stand-test.true _ c.sight.ensures _ c.in_err-sight.was)

pub loop-stand-preserved : goal.loop-stand-preserved
loop-stand-preserved c = search (rules, scan_misses)

pub loop-region-preserved : goal.loop-region-preserved
loop-region-preserved c = run_ends _ _ _ _ _ _ _ c.loop-stand.invariant c.loop-stand-test.false

pub returns-then-in_rect : goal.returns-then-in_rect
returns-then-in_rect c = search (rules, scan_hits)

pub returns-in-None : goal.returns-in-None
returns-in-None c = scan_ends _ _ _ _ _ _ c.loop-region.invariant c.in-None.ensures.steps.0
