-- `grid::holds` meets its contract. The two tests are those of the definition, east first.
-- Assumes nothing.
use Rattle.std.proofs.Common.{◌≡◌, ◌∙◌, rules, sym}
use Rattle.base.proofs.Machine.{both_arrive}
use Rattle.rules.specs.Places.{within, in_grid}
use Rattle.grid.proofs.holds.Goals as goal

north-is : (c : goal.After-within-2) → c.within-2.result ≡ within c.args.grid.south c.args.grid.cell c.args.place.north
north-is c =
    let a = c.args in
    c.within-2.ensures ∙ both_arrive (λ o x. within o a.grid.cell x) a.grid.south a.place.north (search rules) (search rules)

pub returns-then-not-within : goal.returns-then-not-within
unfolding in_grid
returns-then-not-within c =
    let east-is : c.within.result ≡ within c.args.grid.west c.args.grid.cell c.args.place.east = let a = c.args in
    c.within.ensures ∙ both_arrive (λ o x. within o a.grid.cell x) a.grid.west a.place.east (search rules) (search rules) in
    rw (sym east-is ∙ c.if-not-within.true)

pub returns : goal.returns
unfolding in_grid
returns c =
    let east-is : c.within.result ≡ within c.args.grid.west c.args.grid.cell c.args.place.east = let a = c.args in
    c.within.ensures ∙ both_arrive (λ o x. within o a.grid.cell x) a.grid.west a.place.east (search rules) (search rules) in
    rw (sym east-is ∙ c.if-not-within.false) (north-is c)
