-- `grid::region_of` meets its contract. Row and column are below 8, so that the sum fits.
-- Assumes nothing.
use Rattle.std.proofs.Common.{◌≡◌, ◌<◌, ◌∙◌, arith, rules}
use Rattle.base.proofs.Machine.{both_arrive}
use Rattle.rules.specs.Places.{strip, region_of}
use Rattle.rules.proofs.Places.{cell_some, east_inside, north_inside, strip_less}
use Rattle.grid.proofs.region_of.Goals as goal

column-is : (c : goal.After-strip-column) → c.strip-column.result ≡ strip c.args.grid.west c.args.grid.cell c.args.place.east
column-is c =
    let a = c.args in
    c.strip-column.ensures ∙ both_arrive (λ o x. strip o a.grid.cell x) a.grid.west a.place.east (search rules) (search rules)

pub strip-row-requires : goal.strip-row-requires
strip-row-requires c = search (rules, cell_some, north_inside)

pub strip-column-requires : goal.strip-column-requires
strip-column-requires c = search (rules, cell_some, east_inside)

pub overflow_add-result : goal.overflow_add-result
overflow_add-result c =
    let row_is : c.strip-row.result ≡ strip c.args.grid.south c.args.grid.cell c.args.place.north = let a = c.args in
    c.strip-row.ensures ∙ both_arrive (λ o x. strip o a.grid.cell x) a.grid.south a.place.north (search rules) (search rules) in
    let row-less : c.strip-row.result < 8 = let s = c.before.before.before in
    rw row_is (strip_less _ _ _ (north_inside _ _ s.requires.1) (cell_some _ s.requires.0)) in
    let s = c.before.before.before.before.before.before in
    let column = strip_less _ _ _ (east_inside _ _ s.requires.1) (cell_some _ s.requires.0) in
    omega (arith, column-is c, column, row-less)

pub returns : goal.returns
unfolding region_of
returns c =
    let row_is : c.strip-row.result ≡ strip c.args.grid.south c.args.grid.cell c.args.place.north = let a = c.args in
    c.strip-row.ensures ∙ both_arrive (λ o x. strip o a.grid.cell x) a.grid.south a.place.north (search rules) (search rules) in
    let row-less : c.strip-row.result < 8 = let s = c.before.before.before in
    rw row_is (strip_less _ _ _ (north_inside _ _ s.requires.1) (cell_some _ s.requires.0)) in
    omega (arith, row_is, column-is c, row-less)
