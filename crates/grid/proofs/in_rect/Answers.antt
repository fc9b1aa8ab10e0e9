-- `grid::in_rect` meets its contract. Each early return is a false part of the definition; the last test is its last part.
-- Assumes nothing.
use Rattle.std.proofs.Common.{sym, ◌∙◌, rules}
use mathlib.Core.Bool.{and-true}
use Rattle.base.specs.Lists.{every}
use Rattle.base.proofs.Tests.{every_not}
use Rattle.rules.specs.Places.{in_rect}
use Rattle.grid.proofs.Compared.{not_above, compared}
use Rattle.grid.proofs.in_rect.Goals as goal

pub returns-then-place-rect : goal.returns-then-place-rect
unfolding in_rect
returns-then-place-rect c =
    let a = c.args in
    sym (every_not _ 0 (compared a.rect.west a.place.east (search rules) (search rules) c.if-place-rect.true))

pub returns-then-rect-place : goal.returns-then-rect-place
unfolding in_rect
returns-then-rect-place c =
    let a = c.args in
    sym (every_not _ 1 (compared a.place.east a.rect.east (search rules) (search rules) c.if-rect-place.true))

pub returns-then-place-rect-2 : goal.returns-then-place-rect-2
unfolding in_rect
returns-then-place-rect-2 c =
    let a = c.args in
    sym (every_not _ 2 (compared a.rect.south a.place.north (search rules) (search rules) c.if-place-rect-2.true))

pub returns : goal.returns
unfolding in_rect every
returns c =
    let north = c.before.before.before.before in
    let east = north.before.before.before.before.before in
    let west = east.before.before.before.before.before in
    let a = west.args in
    rw (
      compared a.rect.west a.place.east (search rules) (search rules) west.if-place-rect.false,
      compared a.place.east a.rect.east (search rules) (search rules) east.if-rect-place.false,
      compared a.rect.south a.place.north (search rules) (search rules) north.if-place-rect-2.false,
    )
    (not_above a.place.north a.rect.north (search rules) (search rules) ∙ sym (and-true _))
