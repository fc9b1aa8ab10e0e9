-- What the loop of `columns::shares` keeps.
use lib.ListN.{length}
use Rattle.index.specs.Columns.{shared_in}
use Rattle.words.proofs.Filling.{Front}
use Rattle.index.proofs.columns.shares.Given as goal

abbrev pub invariant-loop-stand : goal.invariant-loop-stand
invariant-loop-stand l =
    Front (shared_in l.table.text.now l.table.starts.now) (length l.table.score.now) l.column l.stand
