-- `grid::worth::way_to_region` meets its contract. The nearest metre is one of the grid, so less than 65,536 metres away.
-- Assumes nothing.
use Rattle.std.proofs.Common.{◌≡◌, ◌/◌, ◌%◌, ◌∙◌, arith, rules}
use Rattle.base.proofs.Machine.{both_arrive}
use Rattle.rules.specs.Places.{lifted}
use Rattle.rules.specs.Worth.{apart, nearest_in, across_to, along_to}
use Rattle.rules.proofs.Places.{cell_some, cell_small}
use Rattle.grid.specs.Ways.{Short, way_to_region}
use Rattle.grid.proofs.Ways.{to_region_in, short}
use Rattle.grid.proofs.worth.way_to_region.Goals as goal

along-is : (c : goal.After-gap-along) → c.gap-along.result ≡ along_to c.args.grid c.args.region c.args.place
along-is c =
    let a = c.args in
    c.gap-along.ensures ∙ both_arrive (λ o x. apart (nearest_in o a.grid.cell (a.region / 8) x) (lifted x)) a.grid.south a.place.north (search rules) (search rules)

legs-short : (c : goal.After-gap-along) → let a = c.args in Short (way_to_region a.grid a.region a.place)
legs-short c =
    let s = c.before.before.before.before.before.before in
    short _ _ (to_region_in _ _ _ (cell_some _ s.requires.lawful) s.requires.small s.requires.inside) s.requires.lawful

pub gap-across-requires : goal.gap-across-requires
gap-across-requires c = search (rules, cell_some, cell_small)

pub gap-along-requires : goal.gap-along-requires
gap-along-requires c = search (rules, cell_some, cell_small)

pub overflow_cast-result : goal.overflow_cast-result
overflow_cast-result c =
    let across-is : c.gap-across.result ≡ across_to c.args.grid c.args.region c.args.place = let a = c.args in
    c.gap-across.ensures ∙ both_arrive (λ o x. apart (nearest_in o a.grid.cell (a.region % 8) x) (lifted x)) a.grid.west a.place.east (search rules) (search rules) in
    rw across-is (omega (arith, (legs-short c).across))

pub overflow_cast-result-2 : goal.overflow_cast-result-2
overflow_cast-result-2 c = rw (along-is c) (omega (arith, (legs-short c).along))

pub returns : goal.returns
returns c =
    let across-is : c.gap-across.result ≡ across_to c.args.grid c.args.region c.args.place = let a = c.args in
    c.gap-across.ensures ∙ both_arrive (λ o x. apart (nearest_in o a.grid.cell (a.region % 8) x) (lifted x)) a.grid.west a.place.east (search rules) (search rules) in
    rw (across-is, along-is c)
