-- What the loop of `cursor::pass` keeps.
use Rattle.node.proofs.Placing.{Passing}
use Rattle.node.proofs.cursor.pass.Given as goal

abbrev pub invariant-loop-stand : goal.invariant-loop-stand
invariant-loop-stand l =
    Passing l.region l.initial.stand l.stand-end l.next l.stand
