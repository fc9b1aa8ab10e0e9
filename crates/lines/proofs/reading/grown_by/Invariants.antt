-- What the loop of `reading::grown_by` keeps.
use Rattle.lines.proofs.Turns.{Growing}
use Rattle.lines.proofs.reading.grown_by.Given as goal

abbrev pub invariant-loop-b : goal.invariant-loop-b
invariant-loop-b l =
    Growing l.most l.digits l.value l.b-index
