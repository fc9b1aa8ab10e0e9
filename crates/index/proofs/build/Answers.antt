-- `build` gives the table's refusal, or what is put into the buffers from the table's columns.
-- Assumes nothing.
use borrow.Author.Rules.{rules}
use Rattle.std.proofs.lemmas.Result.{err_from_is_err_and}
use Rattle.rules.proofs.Lawful.{granted}
use Rattle.index.proofs.ByStand.{located, front_size, columns_are, columns_lawful}
use Rattle.index.proofs.Answers.{refused-built, wrote-built}
use Rattle.index.proofs.build.Goals as goal

pub returns-in_err-table_refusal : goal.returns-in_err-table_refusal
returns-in_err-table_refusal c =
    let p = err_from_is_err_and c.from_residual.result c.from_residual.ensures.1 in
    rw (p.1, p.2) (refused-built _ _ _ _ c.in_err-table_refusal.ensures)

pub lengths-lengths-requires : goal.lengths-lengths-requires
lengths-lengths-requires c = let l = granted _ _ _ c.table_refusal.ensures c.in_ok-table_refusal.was in search rules

pub shares-shares-requires : goal.shares-shares-requires
shares-shares-requires c = let l = granted _ _ _ c.table_refusal.ensures c.in_ok-table_refusal.was in search rules

pub regions-regions-requires : goal.regions-regions-requires
regions-regions-requires c = located _ _ (granted _ _ _ c.table_refusal.ensures c.in_ok-table_refusal.was)

pub slice_bounds-lengths-end : goal.slice_bounds-lengths-end
slice_bounds-lengths-end c = let l = granted _ _ _ c.table_refusal.ensures c.in_ok-table_refusal.was in search rules

pub slice_bounds-shares-end : goal.slice_bounds-shares-end
slice_bounds-shares-end c = let l = granted _ _ _ c.table_refusal.ensures c.in_ok-table_refusal.was in search rules

pub slice_bounds-regions-end : goal.slice_bounds-regions-end
slice_bounds-regions-end c = let l = granted _ _ _ c.table_refusal.ensures c.in_ok-table_refusal.was in search rules

pub invariant_of-columns : goal.invariant_of-columns
invariant_of-columns c =
    let l = granted _ _ _ c.table_refusal.ensures c.in_ok-table_refusal.was in
    record { lawful = rw (columns_are _ _ l _ c.lengths-lengths.ensures c.shares-shares.ensures c.regions-regions.ensures) (columns_lawful _ _ l) }

pub returns : goal.returns
returns c =
    let l = granted _ _ _ c.table_refusal.ensures c.in_ok-table_refusal.was in
    let columns = columns_are _ _ l _ c.lengths-lengths.ensures c.shares-shares.ensures c.regions-regions.ensures in
    wrote-built _ _ l _ _ _ (rw columns at c.put_index.ensures)

pub slice_bounds-columns-end : goal.slice_bounds-columns-end
slice_bounds-columns-end c = front_size _ _ (granted _ _ _ c.table_refusal.ensures c.in_ok-table_refusal.was) c.lengths-lengths.result (search rules)

pub slice_bounds-columns-end-2 : goal.slice_bounds-columns-end-2
slice_bounds-columns-end-2 c = front_size _ _ (granted _ _ _ c.table_refusal.ensures c.in_ok-table_refusal.was) c.shares-shares.result (search rules)

pub slice_bounds-columns-end-3 : goal.slice_bounds-columns-end-3
slice_bounds-columns-end-3 c = front_size _ _ (granted _ _ _ c.table_refusal.ensures c.in_ok-table_refusal.was) c.regions-regions.result (search rules)
