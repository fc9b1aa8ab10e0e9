-- `value_line` reads the value of its line.
-- Assumes nothing.
use mathlib.Core.Path.{refl, sym}
use Rattle.std.proofs.lemmas.Fn.{says_at}
use Rattle.lines.proofs.Places.{value_missing, value_broken, value_there}
use Rattle.lines.proofs.reading.value_line.Goals as goal

pub returns-in_err-part : goal.returns-in_err-part
returns-in_err-part g c = rw c.from_residual.ensures (λ f is. value_missing f _ _ c.in_err-part.ensures)

pub returns-in_err-value : goal.returns-in_err-value
returns-in_err-value g c = rw c.from_residual-in_err-value.ensures (λ f is. value_broken f _ _ _ _ _ _ c.in_ok-part.ensures (sym (is _ _ (says_at g.F.Fn c.in_err-value.ensures refl))))

pub returns : goal.returns
returns g c = λ f is. value_there f _ _ _ _ _ _ c.in_ok-part.ensures _ (sym (is _ _ (says_at g.F.Fn c.in_ok-value.ensures refl)))
