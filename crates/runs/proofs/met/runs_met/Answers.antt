-- `met::runs_met` gives what there is to look at, and its runs can be walked through.
-- Assumes nothing.
use mathlib.Core.Path.{ap, ◌∙◌}
use Rattle.std.specs.Prelude.{Ok}
use Rattle.runs.proofs.Sights.{look-ready, agrees}
use Rattle.runs.proofs.met.runs_met.Goals as goal

pub invariant_of-result : goal.invariant_of-result
invariant_of-result c =
    record { ready = look-ready _ _ c.args.set.grid _ _ c.args.at c.args.rect _ _ c.touched_regions.ensures _ (c.in_ok-touched.was ∙ ap Ok c.in-Some.is) (agrees _ _ _ _ c.agree.ensures _ c.in_ok-agree.was) }
