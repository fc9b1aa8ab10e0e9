-- What the loop of `columns::regions` keeps.
use lib.ListN.{length}
use Rattle.index.specs.Columns.{region_in}
use Rattle.words.proofs.Filling.{Front}
use Rattle.index.proofs.columns.regions.Given as goal

abbrev pub invariant-loop-stand : goal.invariant-loop-stand
invariant-loop-stand l =
    Front (region_in l.table.east.now l.table.north.now l.grid) (length l.table.east.now) l.column l.stand
