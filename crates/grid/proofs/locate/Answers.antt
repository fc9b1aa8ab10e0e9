-- `grid::locate` meets its contract. One return for each case of the definition.
-- Assumes nothing.
use Rattle.std.proofs.Common.{sym, ◌∙◌}
use Rattle.rules.specs.Places.{region_told}
use Rattle.grid.proofs.locate.Goals as goal

pub returns-then-not-lawful : goal.returns-then-not-lawful
unfolding region_told
returns-then-not-lawful c = rw (sym c.lawful.ensures ∙ c.if-not-lawful.true)

pub returns-then-not-holds : goal.returns-then-not-holds
unfolding region_told
returns-then-not-holds c =
    let lawful = sym c.lawful.ensures ∙ c.if-not-lawful.false in
    rw (lawful, sym c.holds.ensures ∙ c.if-not-holds.true)

pub region_of-requires : goal.region_of-requires
region_of-requires c = (sym c.lawful.ensures ∙ c.if-not-lawful.false, sym c.holds.ensures ∙ c.if-not-holds.false)

pub returns : goal.returns
unfolding region_told
returns c =
    let lawful = sym c.lawful.ensures ∙ c.if-not-lawful.false in
    let inside = sym c.holds.ensures ∙ c.if-not-holds.false in
    rw (lawful, inside, c.region_of.ensures)
