-- `grid::rect_lawful` meets its contract. The signed tests say the same of the lifted edges.
-- Assumes nothing.
use Rattle.std.proofs.Common.{rules}
use Rattle.rules.specs.Places.{rect_lawful}
use Rattle.grid.proofs.Compared.{not_above, compared}
use Rattle.grid.proofs.rect_lawful.Goals as goal

pub returns-then-rect : goal.returns-then-rect
unfolding rect_lawful
returns-then-rect c =
    let r = c.args.rect in
    rw (compared r.west r.east (search rules) (search rules) c.if-rect.true)

pub returns : goal.returns
unfolding rect_lawful
returns c =
    let r = c.args.rect in
    rw (compared r.west r.east (search rules) (search rules) c.if-rect.false)
    (not_above r.south r.north (search rules) (search rules))
