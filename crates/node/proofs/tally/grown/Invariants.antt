-- What the loop of `tally::grown` keeps.
use Rattle.node.proofs.Ends.{Growing}
use Rattle.node.proofs.tally.grown.Given as goal

abbrev pub invariant-loop-stand : goal.invariant-loop-stand
invariant-loop-stand l =
    Growing l.columns.lengths.now l.columns.shared.now l.initial.stand l.stand-end l.sum l.stand
