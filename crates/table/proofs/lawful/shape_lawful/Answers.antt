-- `lawful::shape_lawful` tests one thing after the other; any that fails is enough.
-- Assumes nothing.
use Rattle.std.proofs.Common.{◌∙◌}
use mathlib.Core.Path.{sym}
use native.Mathlib.Omega.{arith}
use lib.ListN.{length}
use borrow.Author.Tests.{lt-leb, ne_eqb}
use borrow.Author.Rules.{rules}
use Rattle.base.proofs.Tests.{holds, every_not}
use Rattle.rules.specs.Tables.{shape_lawful}
use Rattle.rules.proofs.Lawful.{shape_holds}
use Rattle.table.proofs.lawful.shape_lawful.Goals as goal

pub returns-then-stands-gt-MOST : goal.returns-then-stands-gt-MOST
unfolding shape_lawful
returns-then-stands-gt-MOST c = sym (every_not _ 0 (lt-leb _ _ c.if-stands-gt-MOST.true))

pub returns-then-east-stands : goal.returns-then-east-stands
unfolding shape_lawful
returns-then-east-stands c = sym (every_not _ 1 (ne_eqb _ _ c.if-east-stands.true))

pub returns-then-north-stands : goal.returns-then-north-stands
unfolding shape_lawful
returns-then-north-stands c = sym (every_not _ 2 (ne_eqb _ _ c.if-north-stands.true))

pub returns-then-starts-stands : goal.returns-then-starts-stands
unfolding shape_lawful
returns-then-starts-stands c = sym (every_not _ 3 (ne_eqb _ _ c.if-starts-stands.true))

pub returns-then-starts-ne0 : goal.returns-then-starts-ne0
unfolding shape_lawful
returns-then-starts-ne0 c = sym (every_not _ 4 (ne_eqb _ _ c.if-starts-ne0.true))

pub returns-then-not-rising : goal.returns-then-not-rising
unfolding shape_lawful
returns-then-not-rising c = sym (every_not _ 5 (sym c.rising.ensures ∙ c.if-not-rising.true))

pub overflow_cast-starts : goal.overflow_cast-starts
overflow_cast-starts c = omega (arith, c.shared_slice_known-2-1.given (length c.args.table.score.now))

pub returns-then-starts-stands-2 : goal.returns-then-starts-stands-2
unfolding shape_lawful
returns-then-starts-stands-2 c = sym (every_not _ 6 (ne_eqb _ _ c.if-starts-stands-2.true))

pub returns : goal.returns
unfolding shape_lawful
returns c = search (rules, shape_holds, holds)
