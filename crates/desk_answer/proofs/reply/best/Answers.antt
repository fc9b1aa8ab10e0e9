-- `reply::best`: a refusal is the table's, or the question's on a lawful set, where both rooms are what the rules give.
-- Assumes nothing.
use mathlib.Core.Path.{refl}
use borrow.Author.Rules.{rules}
use Rattle.desk_answer.proofs.Asking.{best_came}
use Rattle.desk_answer.proofs.reply.best.Goals as goal

pub returns : goal.returns
returns c =
    let law = c.in_ok-index_made.ensures.lawful refl in
    best_came _ _ _ _ _ _ _ _ _ law (search rules) (search rules) _ (c.ranked.ensures.exact (rw c.index.ensures law))
