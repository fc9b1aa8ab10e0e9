-- What the loop of `printing::put_hits` keeps.
use lib.ListN.{length}
use Rattle.desk_answer.proofs.Listing.{Listing}
use Rattle.desk_answer.proofs.printing.put_hits.Given as goal

abbrev pub invariant-loop-stand : goal.invariant-loop-stand
invariant-loop-stand l =
    Listing l.table.text.now l.table.starts.now l.found l.values (length l.found) l.initial.out l.initial.at l.out l.at (length l.yielded)
