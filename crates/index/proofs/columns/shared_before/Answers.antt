-- `columns::shared_before` asks for what two names share, but before the first name there is none.
-- Assumes nothing.
use native.Mathlib.Omega.{arith}
use mathlib.Core.Path.{◌≡◌, ◌∙◌, ap₂}
use Rattle.base.specs.Lists.{shared_length}
use Rattle.index.specs.Columns.{shared_in}
use Rattle.index.proofs.ByStand.{shared_later, shared_short}
use Rattle.index.proofs.columns.shared_before.Goals as goal

told : (c : goal.After-shared) → let a = c.args in c.shared.result ≡ shared_in a.table.text.now a.table.starts.now a.stand
told c = c.shared.ensures ∙ ap₂ shared_length c.name_of-before.ensures c.name_of-here.ensures ∙ shared_later _ _ _ c.if-stand-eq0.false

pub overflow_cast-result : goal.overflow_cast-result
overflow_cast-result c = let s = c.requires in omega (arith, told c, shared_short _ _ _ _ s.0 s.1)
