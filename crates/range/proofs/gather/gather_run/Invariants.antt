-- What the loop of `gather::gather_run` keeps.
use Rattle.runs.specs.Runs.{easts, norths}
use Rattle.range.proofs.Turns.{Gathering}
use Rattle.range.proofs.gather.gather_run.Given as goal

abbrev pub invariant-loop-stand : goal.invariant-loop-stand
invariant-loop-stand l =
    Gathering (easts l.runs) (norths l.runs) l.rect l.initial.found l.before l.run l.found l.stand-index l.n
