-- `printing::put_refusal` puts the line of the refusal's number.
-- Assumes nothing.
use borrow.Author.Rules.{rules}
use Rattle.desk_form.specs.Printed.{printed_refusal}
use Rattle.lines.proofs.Digits.{number_room}
use Rattle.desk_answer.proofs.printing.put_refusal.Goals as goal

pub put_number-requires : goal.put_number-requires
put_number-requires c = number_room _ _ _ _ (search rules) (search rules)

pub returns : goal.returns
unfolding printed_refusal
returns c = rw (c.from-2.ensures, c.from.ensures) at c.put_number.ensures
