-- `any_from` keeps its promise: it answers what it begins with (proofs/Promises.antt).
-- Assumes nothing.
use mathlib.Core.Path.{ap, ◌∙◌}
use Rattle.grid.proofs.Covers.{Edges}
use Rattle.rules.specs.Tables.{lent_table}
use Rattle.rules.specs.Indexes.{lent_index}
use Rattle.runs.specs.Notes.{blank}
use Rattle.any.proofs.Promises.{kept, from_runs}
use Rattle.std.specs.Prelude.{Ok}
use Rattle.std.proofs.lemmas.Result.{err_from_is_err_and}
use borrow.Author.Rules.{rules}
use Rattle.any.proofs.any_from.Goals as goal

pub runs_met-requires : goal.runs_met-requires
unfolding blank
runs_met-requires c = search rules

pub returns-in_err-runs : goal.returns-in_err-runs
returns-in_err-runs c =
    let set = c.args.set in
    let edges : Edges c.args.rect = search rules in
    let p = err_from_is_err_and c.from_residual.result c.from_residual.ensures.1 in
    rw (p.1, p.2) (kept (lent_table set.table) set.grid (lent_index set.index) _ _ edges _ c.runs_met.ensures _ (rw c.in_err-runs.was))

pub returns-in_default : goal.returns-in_default
returns-in_default c =
    let set = c.args.set in
    let edges : Edges c.args.rect = search rules in
    kept (lent_table set.table) set.grid (lent_index set.index) _ _ edges _ c.runs_met.ensures _ (rw (c.in_ok-runs.was, c.in_default.is))

pub returns : goal.returns
returns c =
    let set = c.args.set in
    let edges : Edges c.args.rect = search rules in
    from_runs (lent_table set.table) set.grid (lent_index set.index) _ _ edges _ c.runs_met.ensures _ (c.in_ok-runs.was ∙ ap Ok c.in-Some.is) _ c.first_in.ensures
