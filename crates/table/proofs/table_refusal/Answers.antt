-- `table::table_refusal` gives the first refusal that holds: by the tests that came before it.
-- Assumes nothing.
use Rattle.std.proofs.Common.{sym, ◌∙◌}
use native.Mathlib.Omega.{arith}
use borrow.Author.Rules.{rules}
use Rattle.base.proofs.Tests.{breaks, holds}
use Rattle.rules.proofs.Lawful.{refused_shape, refused-grid, refused-name, refused_order, refused_place, not_refused, shape_parts}
use Rattle.table.proofs.table_refusal.Goals as goal

pub returns-then-not-shape_lawful : goal.returns-then-not-shape_lawful
returns-then-not-shape_lawful c = search (rules, refused_shape, breaks)

pub returns-then-not-lawful : goal.returns-then-not-lawful
returns-then-not-lawful c = search (rules, refused-grid, holds, breaks)

pub overflow_cast-stands : goal.overflow_cast-stands
overflow_cast-stands c = omega (arith, (shape_parts _ (sym c.shape_lawful.ensures ∙ c.if-not-shape_lawful.false)).few)

pub returns-then-not-names_allowed : goal.returns-then-not-names_allowed
returns-then-not-names_allowed c = search (rules, refused-name, holds, breaks)

pub returns-then-not-names_in_order : goal.returns-then-not-names_in_order
returns-then-not-names_in_order c = search (rules, refused_order, holds, breaks)

pub stands_lawful-requires : goal.stands_lawful-requires
stands_lawful-requires c =
    let shape = shape_parts _ (sym c.shape_lawful.ensures ∙ c.if-not-shape_lawful.false) in
    (shape.easts, shape.norths)

pub returns-then-not-stands_lawful : goal.returns-then-not-stands_lawful
returns-then-not-stands_lawful c = search (rules, refused_place, holds, breaks)

pub returns : goal.returns
returns c = search (rules, not_refused, holds)
