-- `read_input` reads group after group, and nothing may stand behind the last; each answer says what one group left.
-- Assumes nothing.
use Rattle.desk_form.proofs.Inputs.{grid_law}
use Rattle.desk_form.proofs.Readings.{no_opening, no_stands, no_question, more_behind, all_read}
use Rattle.desk_form.proofs.read_input.Goals as goal

pub returns-in_default : goal.returns-in_default
returns-in_default c = no_opening _ _ _ c.in_default.ensures

pub read_stands-requires : goal.read_stands-requires
read_stands-requires c =
    let opening = c.in-Some.ensures in
    record { within = opening.within; short = c.if-input-gt-BYTES_MOST.false; few = (grid_law.sound _ _ _ opening.is).0.1 }

pub returns-in_default-read_stands : goal.returns-in_default-read_stands
returns-in_default-read_stands c = no_stands _ _ _ _ _ _ c.in-Some.ensures c.in_default-read_stands.ensures

pub returns-in_default-read_question : goal.returns-in_default-read_question
returns-in_default-read_question c = no_question _ _ _ _ _ _ c.in-Some.ensures _ _ c.in-Some-read_stands.ensures c.in_default-read_question.ensures

pub returns-then-next-input : goal.returns-then-next-input
returns-then-next-input c = more_behind _ _ _ _ _ _ c.in-Some.ensures _ _ c.in-Some-read_stands.ensures _ _ _ _ c.in-Some-read_question.ensures c.if-next-input.true

pub returns : goal.returns
returns c = all_read _ _ _ _ _ _ c.in-Some.ensures _ _ c.in-Some-read_stands.ensures _ _ _ _ c.in-Some-read_question.ensures c.if-input-gt-BYTES_MOST.false c.if-next-input.false
