-- What the loop of `write_held` keeps.
use Rattle.search.proofs.Writing.{Writing}
use Rattle.search.proofs.write_held.Given as goal

abbrev pub invariant-loop-i : goal.invariant-loop-i
invariant-loop-i l =
    Writing l.held l.initial.found l.initial.values l.found l.values l.i
