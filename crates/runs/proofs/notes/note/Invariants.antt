-- What the loop of `notes::note` keeps.
use Rattle.runs.proofs.Noting.{Noting}
use Rattle.runs.proofs.notes.note.Given as goal

abbrev pub invariant-loop-i : goal.invariant-loop-i
invariant-loop-i l =
    Noting l.entries l.from l.most l.initial.numbers l.numbers l.i
