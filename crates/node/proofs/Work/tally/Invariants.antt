-- What the loop of `Work::tally` keeps.
use Rattle.node.specs.Rows.{Untallied}
use Rattle.node.proofs.Held.{Tallying}
use Rattle.node.proofs.Work.tally.Given as goal

abbrev pub invariant-loop-stand : goal.invariant-loop-stand
invariant-loop-stand l =
    Tallying l.region l.score l.initial.self.next l.initial.stand l.stand-end l.self.places l.self.best l.bits l.stand × Untallied l.initial.self l.self
