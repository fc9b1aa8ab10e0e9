-- `gather::gather_run` meets its contract: the loop's invariant is Gathering, by the stands that are left.
-- Assumes nothing.
use mathlib.Core.Path.{sym, ◌∙◌}
use Rattle.range.proofs.Turns.{run_breaks, run-hit, run_miss, run_ends}
use borrow.Author.Rules.{rules}
use Rattle.range.proofs.gather.gather_run.Goals.{then-in_rect, else-in_rect}
use Rattle.range.proofs.gather.gather_run.Goals as goal

pub returns-in_err-sight : goal.returns-in_err-sight
returns-in_err-sight c = search (rules, run_breaks)

pub loop-stand-preserved : goal.loop-stand-preserved
loop-stand-preserved c =
    let at = c.loop-stand in
    let l = c.loop-stand-test.true in
    let told = sym c.in_rect.ensures in
    elim c.if-in_rect.branch [
      | then-in_rect w ↦ run-hit _ _ _ _ _ _ _ _ _ at.invariant l _ c.sight.ensures _ c.in_ok-sight.was _ _ (told ∙ w.if-in_rect.true) (w.found-is ∙ w.put.ensures) w.n-is
      | else-in_rect w ↦ run_miss _ _ _ _ _ _ _ _ _ at.invariant l _ c.sight.ensures _ c.in_ok-sight.was _ _ (told ∙ w.if-in_rect.false) w.found-is w.n-is
    ]

pub returns : goal.returns
returns c = search (rules, run_ends)
