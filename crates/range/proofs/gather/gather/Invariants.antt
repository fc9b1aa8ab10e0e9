-- What the loop of `gather::gather` keeps: by the regions that are still to come.
use Rattle.grid.specs.Cells.{regions_in, still_to_come}
use Rattle.runs.specs.Runs.{easts, norths, noted}
use Rattle.range.proofs.Turns.{Sweeping}
use Rattle.range.proofs.gather.gather.Given as goal

abbrev pub invariant-loop-region : goal.invariant-loop-region
invariant-loop-region l =
    Sweeping (easts l.runs) (norths l.runs) (noted l.runs) l.rect (regions_in l.runs.touched.regions) l.initial.found l.found l.n (still_to_come l.region-iterator)
