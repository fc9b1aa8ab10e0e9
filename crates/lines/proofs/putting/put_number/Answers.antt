-- `put_number`: the digits that the kit's `decimal` gives are the number's decimal.
-- Assumes nothing.
use mathlib.Core.Path.{◌∙◌}
use Rattle.lines.proofs.Digits.{decimal_digits}
use Rattle.lines.proofs.putting.put_number.Goals as goal

pub put_line-requires : goal.put_line-requires
put_line-requires c = let d = c.decimal-count.ensures in rw (d.digits ∙ decimal_digits _ _ d.len) c.requires

pub returns : goal.returns
returns c = let d = c.decimal-count.ensures in rw (d.digits ∙ decimal_digits _ _ d.len) at c.put_line.ensures
