-- `names::plain` looks at a bit that no capital has.
-- Assumes nothing.
use borrow.Author.Tests.{eqb-true}
use Rattle.rules.proofs.Folds.{read_plain}
use Rattle.table.proofs.names.plain.Goals as goal

pub returns : goal.returns
returns c e = read_plain _ (eqb-true _ _ e)
