-- `ranked::ranked` meets its promise: the text is refused, or its listing goes before. Assumes nothing.
use Rattle.rules.specs.Tables.{lent_table}
use Rattle.rules.specs.Indexes.{lent_index}
use Rattle.ranked.proofs.Ways.{of_listed}
use Rattle.ranked.proofs.ranked.Goals as goal

pub returns : goal.returns
returns c =
    let a = c.args in
    of_listed (lent_table a.set.table) a.set.grid (lent_index a.set.index) a.typed.now a.asked a.found.now a.values.now _ _ _ _ c.text_verdict.ensures c.in_ok-text_verdict.was
    c.listing_of-at.ensures c.ranked_from.ensures
