-- `names::folded` is the library's small letter of a byte.
-- Assumes nothing.
use Rattle.std.proofs.Common.{◌∙◌}
use Rattle.rules.proofs.Folds.{read_lowercase}
use Rattle.table.proofs.names.folded.Goals as goal

pub returns : goal.returns
returns c = c.to_ascii_lowercase.ensures.value ∙ read_lowercase c.args.b
