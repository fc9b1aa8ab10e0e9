-- `session::type_byte` meets its contract: each return by where the letter leads (proofs/Steps.antt). Assumes nothing.
use mathlib.Core.Path.{sym, ◌∙◌}
use borrow.Author.Rules.{rules}
use Rattle.std.proofs.lemmas.Result.{err_from_is_err_and}
use Rattle.session.specs.Strokes.{lengthened}
use Rattle.session.proofs.Steps.{typed_over, typed_led, struck_by}
use Rattle.session.proofs.Promises.{type_written}
use Rattle.session.proofs.type_byte.Goals as goal

pub returns-then-len-gt-NAME_MOST-clause-step : goal.returns-then-len-gt-NAME_MOST-clause-step
returns-then-len-gt-NAME_MOST-clause-step c = struck_by _ _ _ (sym (typed_over _ _ _ (search rules)))

pub returns-then-len-gt-NAME_MOST-clause-promise : goal.returns-then-len-gt-NAME_MOST-clause-promise
returns-then-len-gt-NAME_MOST-clause-promise c = type_written _ _ _ _ (sym (typed_over _ _ _ (search rules))) (search rules)

pub returns-in_err-node-clause-step : goal.returns-in_err-node-clause-step
returns-in_err-node-clause-step c =
    let p = err_from_is_err_and c.from_residual.result c.from_residual.ensures.1 in
    rw (p.1, p.2) (struck_by _ _ _ (typed_led _ _ _ _ _ c.folded-letter.ensures (sym c.in_err-node.was ∙ c.leads.ensures.node)))

pub returns-in_err-node-clause-promise : goal.returns-in_err-node-clause-promise
returns-in_err-node-clause-promise c =
    let p = err_from_is_err_and c.from_residual.result c.from_residual.ensures.1 in
    rw (p.1, p.2) (type_written _ _ _ _ (typed_led _ _ _ _ _ c.folded-letter.ensures (sym c.in_err-node.was ∙ c.leads.ensures.node)) (search rules))

pub returns-clause-step : goal.returns-clause-step
unfolding lengthened
returns-clause-step c = struck_by _ _ _ (typed_led _ _ _ _ _ c.folded-letter.ensures (sym c.in_ok-node.was ∙ c.leads.ensures.node))

pub returns-clause-promise : goal.returns-clause-promise
unfolding lengthened
returns-clause-promise c = type_written _ _ _ _ (typed_led _ _ _ _ _ c.folded-letter.ensures (sym c.in_ok-node.was ∙ c.leads.ensures.node)) (search rules)
