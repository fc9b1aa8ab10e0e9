-- `grid::lawful` meets its contract. Each early return is a false part of the definition; the last test is its last part.
-- Assumes nothing.
use Rattle.std.proofs.Common.{◌≡◌, sym, ◌∙◌, rules, le-leb}
use mathlib.Core.Bool.{and-true}
use borrow.Author.Tests.{lt-leb}
use Rattle.base.specs.Lists.{every}
use Rattle.base.proofs.Tests.{every_not}
use Rattle.base.proofs.Machine.{arrives}
use Rattle.rules.specs.Places.{grid_lawful, edge_lawful}
use Rattle.grid.proofs.lawful.Goals as goal

pub returns-then-not-edge_lawful : goal.returns-then-not-edge_lawful
unfolding grid_lawful
returns-then-not-edge_lawful c =
    let west-is : c.edge_lawful.result ≡ edge_lawful c.args.grid.west = c.edge_lawful.ensures ∙ arrives edge_lawful c.args.grid.west (search rules) in
    sym (every_not _ 0 (sym west-is ∙ c.if-not-edge_lawful.true))

pub returns-then-not-edge_lawful-2 : goal.returns-then-not-edge_lawful-2
unfolding grid_lawful
returns-then-not-edge_lawful-2 c =
    let south-is : c.edge_lawful-2.result ≡ edge_lawful c.args.grid.south = c.edge_lawful-2.ensures ∙ arrives edge_lawful c.args.grid.south (search rules) in
    sym (every_not _ 1 (sym south-is ∙ c.if-not-edge_lawful-2.true))

pub returns-then-cell-lt1 : goal.returns-then-cell-lt1
unfolding grid_lawful
returns-then-cell-lt1 c = sym (every_not _ 2 (lt-leb _ _ c.if-cell-lt1.true))

pub returns : goal.returns
unfolding grid_lawful every
returns c =
    let west-is : c.edge_lawful.result ≡ edge_lawful c.args.grid.west = c.edge_lawful.ensures ∙ arrives edge_lawful c.args.grid.west (search rules) in
    let south-is : c.edge_lawful-2.result ≡ edge_lawful c.args.grid.south = c.edge_lawful-2.ensures ∙ arrives edge_lawful c.args.grid.south (search rules) in
    let west = sym west-is ∙ c.if-not-edge_lawful.false in
    let south = sym south-is ∙ c.if-not-edge_lawful-2.false in
    rw (west, south, le-leb 1 _ c.if-cell-lt1.false) (sym (and-true _))
