-- `check` says no for a table that is refused; else it compares the buffers with what the table's columns give.
-- Assumes nothing.
use borrow.Author.Rules.{rules}
use Rattle.index.proofs.ByStand.{located, front_size, columns_are, columns_lawful}
use Rattle.index.proofs.Answers.{granted_some, refused_none, compared-checked}
use Rattle.index.proofs.check.Goals as goal

pub returns-in_err-ok : goal.returns-in_err-ok
returns-in_err-ok c = rw c.from_residual.ensures (refused_none _ _ _ _ c.table_refusal.ensures c.ok.ensures.value c.in_err-ok.was)

pub lengths-lengths-requires : goal.lengths-lengths-requires
lengths-lengths-requires c = let l = granted_some _ _ _ c.table_refusal.ensures c.ok.ensures.value c.in_ok-ok.was in search rules

pub shares-shares-requires : goal.shares-shares-requires
shares-shares-requires c = let l = granted_some _ _ _ c.table_refusal.ensures c.ok.ensures.value c.in_ok-ok.was in search rules

pub regions-regions-requires : goal.regions-regions-requires
regions-regions-requires c = located _ _ (granted_some _ _ _ c.table_refusal.ensures c.ok.ensures.value c.in_ok-ok.was)

pub slice_bounds-lengths-end : goal.slice_bounds-lengths-end
slice_bounds-lengths-end c = let l = granted_some _ _ _ c.table_refusal.ensures c.ok.ensures.value c.in_ok-ok.was in search rules

pub slice_bounds-shares-end : goal.slice_bounds-shares-end
slice_bounds-shares-end c = let l = granted_some _ _ _ c.table_refusal.ensures c.ok.ensures.value c.in_ok-ok.was in search rules

pub slice_bounds-regions-end : goal.slice_bounds-regions-end
slice_bounds-regions-end c = let l = granted_some _ _ _ c.table_refusal.ensures c.ok.ensures.value c.in_ok-ok.was in search rules

pub invariant_of-columns : goal.invariant_of-columns
invariant_of-columns c =
    let l = granted_some _ _ _ c.table_refusal.ensures c.ok.ensures.value c.in_ok-ok.was in
    record { lawful = rw (columns_are _ _ l _ c.lengths-lengths.ensures c.shares-shares.ensures c.regions-regions.ensures) (columns_lawful _ _ l) }

pub returns : goal.returns
returns c =
    let l = granted_some _ _ _ c.table_refusal.ensures c.ok.ensures.value c.in_ok-ok.was in
    let columns = columns_are _ _ l _ c.lengths-lengths.ensures c.shares-shares.ensures c.regions-regions.ensures in
    compared-checked _ _ l _ _ (rw columns at c.has_index.ensures)

pub slice_bounds-columns-end : goal.slice_bounds-columns-end
slice_bounds-columns-end c = front_size _ _ (granted_some _ _ _ c.table_refusal.ensures c.ok.ensures.value c.in_ok-ok.was) c.lengths-lengths.result (search rules)

pub slice_bounds-columns-end-2 : goal.slice_bounds-columns-end-2
slice_bounds-columns-end-2 c = front_size _ _ (granted_some _ _ _ c.table_refusal.ensures c.ok.ensures.value c.in_ok-ok.was) c.shares-shares.result (search rules)

pub slice_bounds-columns-end-3 : goal.slice_bounds-columns-end-3
slice_bounds-columns-end-3 c = front_size _ _ (granted_some _ _ _ c.table_refusal.ensures c.ok.ensures.value c.in_ok-ok.was) c.regions-regions.result (search rules)
