-- What the loop of `names::shared` keeps.
use Rattle.base.proofs.Begins.{Sharing}
use Rattle.table.proofs.names.shared.Given as goal

abbrev pub invariant-loop-i : goal.invariant-loop-i
invariant-loop-i l =
    Sharing l.a l.b l.i
