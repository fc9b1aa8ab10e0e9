-- What the loops of `first::first_in` keep: what is left to look at comes to what all of it does.
use Rattle.std.proofs.Common.{◌++◌}
use lib.ListN.{drop}
use Rattle.grid.specs.Cells.{still_to_come}
use Rattle.runs.specs.Runs.{easts, norths, noted, stands_there}
use Rattle.runs.specs.Sights.{touched_stands}
use Rattle.any.proofs.Scans.{Left}
use Rattle.any.proofs.first.first_in.Given as goal

abbrev pub invariant-loop-stand : goal.invariant-loop-stand
invariant-loop-stand l =
    Left (easts l.runs) (norths l.runs) l.rect (stands_there l.runs) (drop l.stand-index l.stand-items ++ touched_stands (noted l.runs) (still_to_come l.region-iterator))

abbrev pub invariant-loop-region : goal.invariant-loop-region
invariant-loop-region l =
    Left (easts l.runs) (norths l.runs) l.rect (stands_there l.runs) (touched_stands (noted l.runs) (still_to_come l.region-iterator))
