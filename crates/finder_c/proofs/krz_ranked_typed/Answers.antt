-- `krz_ranked_typed` tells the numbers of what came of the question, of the parts put together. Assumes nothing.
use Rattle.finder_c.proofs.Told.{told-kept}
use Rattle.finder_c.proofs.krz_ranked_typed.Goals as goal

pub returns : goal.returns
returns c =
    told-kept _ _ _ _ _ _ _ c.into.ensures (rw c.set_of-set.ensures at c.ranked_typed.ensures)
