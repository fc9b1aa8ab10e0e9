-- `signed_in` reads a signed number: with a sign, what is behind it is read, and is no 0.
-- Assumes nothing.
use mathlib.Core.Path.{◌∙◌}
use borrow.Author.Rules.{rules}
use Rattle.lines.proofs.Signs.{plain_none, plain_fits, plain_some, minus_none, minus_some}
use Rattle.lines.proofs.reading.signed_in.Goals as goal

pub returns-in_err-n : goal.returns-in_err-n
returns-in_err-n c = c.from_residual.ensures ∙ plain_none _ c.in_default.ensures.cases c.in_err-n.ensures

pub overflow_cast-result : goal.overflow_cast-result
overflow_cast-result c = plain_fits _ c.in_default.ensures.cases _ c.in_ok-n.ensures

pub returns-in_default : goal.returns-in_default
returns-in_default c = plain_some _ c.in_default.ensures.cases _ c.in_ok-n.ensures

pub returns-in_err-n-2 : goal.returns-in_err-n-2
returns-in_err-n-2 c =
    let sign = c.in-Some.ensures.cases in
    c.from_residual-in_err-n-2.ensures ∙ minus_none _ _ sign.0 sign.1 c.in_err-n-2.ensures

pub returns : goal.returns
returns c =
    let sign = c.in-Some.ensures.cases in
    minus_some _ _ sign.0 sign.1 _ c.in_ok-n-2.ensures _ (search rules) c.checked_sub_unsigned.ensures
