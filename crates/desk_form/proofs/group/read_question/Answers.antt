-- `group::read_question` reads four lines as a stand's, and k: each answer says what they left.
-- Assumes nothing.
use mir.Syntax.{w32}
use mir.Facts.{to_z-of_z}
use borrow.Author.Rules.{rules}
use Rattle.lines.specs.Reads.{onward}
use Rattle.desk_form.specs.Reads.{question_lines}
use Rattle.desk_form.proofs.Readings.{ok_given, ok_missing}
use Rattle.desk_form.proofs.group.read_question.Goals as goal

pub returns-in_err-four : goal.returns-in_err-four
unfolding question_lines onward
returns-in_err-four c =
    let torn = ok_missing c.read_by.result c.in_err-four.ensures.value in
    rw (c.from_residual.ensures, (rw torn.1 at c.read_by.ensures).none)

pub returns-in_err-k : goal.returns-in_err-k
unfolding question_lines onward
returns-in_err-k c =
    let four = rw (ok_given c.read_by.result _ c.in_ok-four.ensures.value) at c.read_by.ensures in
    rw (c.from_residual-in_err-k.ensures, four.reached.is, c.in_err-k.ensures)

pub returns : goal.returns
unfolding question_lines onward
returns c =
    let four = rw (ok_given c.read_by.result _ c.in_ok-four.ensures.value) at c.read_by.ensures in
    let k = c.in_ok-k.ensures in
    rw (to_z-of_z {w = w32} {z = c.in_ok-four.four.east} (search rules), to_z-of_z {w = w32} {z = c.in_ok-four.four.north} (search rules))
    (record { begun = four.begun; forward = four.forward; inside = four.inside; reached = record { within = k.within; is = rw (four.reached.is, k.is) } })
