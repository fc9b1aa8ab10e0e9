-- `Runs::run_of` meets its contract: a run that is read ends within the order.
-- Assumes nothing.
use native.Mathlib.Omega.{arith}
use mathlib.Core.Path.{sym, ap, ◌∙◌}
use Rattle.std.specs.Prelude.{Ok}
use Rattle.runs.specs.Sights.{run_told}
use Rattle.runs.specs.Runs.{noted}
use Rattle.runs.proofs.Walks.{run-fits, run_part, run_there}
use Rattle.runs.proofs.Runs.run_of.Goals as goal

pub slice_bounds-result-end : goal.slice_bounds-result-end
slice_bounds-result-end c = let fits = run-fits _ _ _ c.entry_at.ensures _ _ c.args.self.ready _ c.in_ok-entry.was in omega (arith)

pub returns-clause-seen : goal.returns-clause-seen
returns-clause-seen c = run_part (noted c.args.self) c.args.region _ c.entry_at.ensures _ c.in_ok-entry.was _ c.min-first.ensures

pub returns-clause-told : goal.returns-clause-told
returns-clause-told c =
    let n = noted c.args.self in
    let read = c.entry_at.ensures in
    let part = run_part n c.args.region _ read _ c.in_ok-entry.was _ c.min-first.ensures in
    ap Ok (part ∙ run_there n c.args.region _ read _ c.in_ok-entry.was) ∙ ap (run_told n) (sym c.in_ok-entry.was ∙ read)
