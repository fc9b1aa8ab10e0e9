-- What the loop of `columns::read_stands` keeps.
use Rattle.desk_form.specs.Columns.{parts_table}
use Rattle.desk_form.proofs.Layouts.{Laying}
use Rattle.desk_form.proofs.columns.read_stands.Given as goal

abbrev pub invariant-loop-i : goal.invariant-loop-i
invariant-loop-i l =
    Laying l.input l.at l.stands (parts_table l.initial.parts) (parts_table l.parts) l.bytes l.next l.i
