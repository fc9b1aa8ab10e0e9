-- `grid::worth::way_between` meets its contract. Across and along apart.
-- Assumes nothing.
use Rattle.std.proofs.Common.{◌≡◌, ◌∙◌, rules}
use Rattle.base.proofs.Machine.{both_arrive}
use Rattle.rules.specs.Places.{lifted}
use Rattle.rules.specs.Worth.{apart}
use Rattle.grid.proofs.worth.way_between.Goals as goal

along-is : (c : goal.After-metres_between-2) → c.metres_between-2.result ≡ apart (lifted c.args.a.north) (lifted c.args.b.north)
along-is c =
    let s = c.args in
    c.metres_between-2.ensures ∙ both_arrive (λ x y. apart (lifted x) (lifted y)) s.a.north s.b.north (search rules) (search rules)

pub returns : goal.returns
returns c =
    let across-is : c.metres_between.result ≡ apart (lifted c.args.a.east) (lifted c.args.b.east) = let s = c.args in
    c.metres_between.ensures ∙ both_arrive (λ x y. apart (lifted x) (lifted y)) s.a.east s.b.east (search rules) (search rules) in
    rw (across-is, along-is c)
