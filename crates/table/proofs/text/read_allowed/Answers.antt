-- `text::read_allowed`: a byte that is allowed as it stands is read as itself.
-- Assumes nothing.
use Rattle.std.proofs.Common.{sym, ap, ◌∙◌}
use Rattle.rules.specs.Names.{allowed}
use Rattle.rules.proofs.Folds.{allowed_same}
use Rattle.table.proofs.text.read_allowed.Goals as goal

pub returns-then-allowed : goal.returns-then-allowed
returns-then-allowed c =
    let as_it_stands = sym c.allowed.ensures ∙ c.if-allowed.true in
    c.allowed.ensures ∙ ap allowed (sym (allowed_same c.args.byte as_it_stands))
