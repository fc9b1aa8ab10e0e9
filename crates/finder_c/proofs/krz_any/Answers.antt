-- `krz_any` tells the numbers of the answer, of the parts put together. Assumes nothing.
use Rattle.finder_c.proofs.Told.{same_kept}
use Rattle.finder_c.proofs.krz_any.Goals as goal

pub returns : goal.returns
returns c =
    same_kept _ _ _ _ _ _ c.into.ensures (rw c.set_of-set.ensures at c.any.ensures)
