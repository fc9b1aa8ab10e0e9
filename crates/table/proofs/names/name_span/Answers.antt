-- `names::name_span` gives where a name lies, or the empty span at 0.
-- Assumes nothing.
use Prim.Native.Nat.{◌+◌}
use native.Mathlib.Omega.{arith}
use borrow.Author.Tests.{le-ltb, lt-leb}
use borrow.Author.Rules.{rules}
use Rattle.base.proofs.Tests.{every_not}
use Rattle.rules.specs.Names.{spanned}
use Rattle.table.proofs.Parts.{nowhere, found}
use Rattle.table.proofs.names.name_span.Goals as goal
use Rattle.table.proofs.names.name_span.Goals.{then-past-from-via-else-past-from+then-text-past, then-past-from-via-then-past-from}

pub returns-then-starts-i : goal.returns-then-starts-i
unfolding spanned
returns-then-starts-i c = nowhere _ _ _ (every_not _ 0 (le-ltb _ _ c.if-starts-i.true))

pub overflow_cast-from : goal.overflow_cast-from
unfolding spanned
overflow_cast-from c = omega (arith, c.shared_slice_known-1.given c.args.stand.0)

pub overflow_cast-past : goal.overflow_cast-past
unfolding spanned
overflow_cast-past c = omega (arith, c.shared_slice_known-2-1.given (c.args.stand.0 + 1))

pub returns-then-past-from : goal.returns-then-past-from
unfolding spanned
returns-then-past-from c =
    let a = c.args in
    nowhere _ _ _
    (elim c.then-past-from.branch [
      | then-past-from-via-then-past-from w ↦ every_not _ 1 (lt-leb _ _ w.if-past-from.true)
      | then-past-from-via-else-past-from+then-text-past w ↦ every_not _ 2 (lt-leb _ _ w.if-text-past.true)
    ])

pub returns : goal.returns
returns c =
    let i = c.args.stand.0 in
    found _ _ _ (search rules) (search rules) (search rules) (omega (arith, c.shared_slice_known-2-1.given (i + 1)))
