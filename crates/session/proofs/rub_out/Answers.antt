-- `session::rub_out` meets its contract: each return by the tests that lead there (proofs/Steps.antt). Assumes nothing.
use mathlib.Core.Path.{sym}
use borrow.Author.Rules.{rules}
use Rattle.session.specs.Strokes.{shortened}
use Rattle.session.proofs.Steps.{rubbed_over, rubbed_last}
use Rattle.session.proofs.Promises.{rub_written}
use Rattle.session.proofs.rub_out.Goals as goal

pub returns-then-len-gt-NAME_MOST-clause-promise : goal.returns-then-len-gt-NAME_MOST-clause-promise
returns-then-len-gt-NAME_MOST-clause-promise c = rub_written _ _ (sym (rubbed_over _ (search rules))) (search rules)

pub returns-clause-promise : goal.returns-clause-promise
unfolding shortened
returns-clause-promise c = rub_written _ _ (sym (rubbed_last _ (search rules) (search rules))) (search rules)
