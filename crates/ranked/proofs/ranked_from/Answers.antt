-- `ranked::ranked_from` meets its promise: its ways out are the laws of proofs/Ways.antt. Assumes nothing.
use mathlib.Core.Path.{sym, ap, ◌∙◌}
use native.Mathlib.Omega.{arith}
use Rattle.std.specs.Prelude.{Ok}
use Rattle.rules.specs.Tables.{lent_table}
use Rattle.search.specs.Searches.{table_columns}
use Rattle.ranked.proofs.Ways.{from_unlawful, from_nowhere, from_entries}
use Rattle.ranked.proofs.ranked_from.Goals as goal

pub returns-then-not-lawful : goal.returns-then-not-lawful
returns-then-not-lawful c =
    let a = c.args in
    let x = a.set.index in
    from_unlawful (table_columns (lent_table a.set.table)) a.set.grid x.order.now x.entries.now a.at a.asked a.found.now a.values.now (sym c.if-not-lawful.ensures)

pub returns-in-Some : goal.returns-in-Some
returns-in-Some c =
    let a = c.args in
    let x = a.set.index in
    from_entries (table_columns (lent_table a.set.table)) a.set.grid x.order.now x.entries.now a.at a.asked a.found.now a.values.now
    (record { asks = record { grid = sym c.if-not-lawful.ensures; ranking = sym c.if-not-rankable.ensures }; stands_fit = omega arith; values_fit = omega arith })
    _ _ (c.in_ok-listing.was ∙ ap Ok c.in-Some.is) c.best_listed.ensures

pub returns-in-None : goal.returns-in-None
returns-in-None c =
    let a = c.args in
    let x = a.set.index in
    from_nowhere (table_columns (lent_table a.set.table)) a.set.grid x.order.now x.entries.now a.at a.asked a.found.now a.values.now
    (record { asks = record { grid = sym c.if-not-lawful.ensures; ranking = sym c.if-not-rankable.ensures }; stands_fit = omega arith; values_fit = omega arith })
    (c.in_ok-listing.was ∙ ap Ok c.in-None.is)
