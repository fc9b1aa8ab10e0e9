-- `names::name_allowed` tests the length, then the bytes.
-- Assumes nothing.
use mathlib.Core.Path.{sym}
use borrow.Author.Tests.{lt-leb}
use borrow.Author.Rules.{rules}
use Rattle.base.proofs.Tests.{every_not}
use Rattle.rules.specs.Names.{name_allowed}
use Rattle.rules.proofs.Bytes.{name_bytes}
use Rattle.table.proofs.names.name_allowed.Goals as goal

pub returns-then-name-lt1 : goal.returns-then-name-lt1
unfolding name_allowed
returns-then-name-lt1 c = sym (every_not _ 0 (lt-leb _ _ c.if-name-lt1.true))

pub returns-then-name-gt-NAME_MOST : goal.returns-then-name-gt-NAME_MOST
unfolding name_allowed
returns-then-name-gt-NAME_MOST c = sym (every_not _ 1 (lt-leb _ _ c.if-name-gt-NAME_MOST.true))

pub returns : goal.returns
unfolding name_allowed
returns c = search (rules, name_bytes)
