-- `touched_of` asks for the notes of no more entries than there are regions.
-- Assumes nothing.
use native.Mathlib.Omega.{arith}
use Rattle.grid.proofs.Listed.{listed_few}
use Rattle.runs.proofs.touched_of.Goals as goal

pub note-requires : goal.note-requires
note-requires c = omega (arith, c.count.ensures, listed_few c.args.listing.regions)
