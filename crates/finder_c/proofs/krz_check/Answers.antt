-- `krz_check` tells the check's numbers, of the parts put together. Assumes nothing.
use Rattle.std.proofs.Common.{◌∙◌}
use Rattle.finder_c.proofs.krz_check.Goals as goal

pub returns : goal.returns
returns c =
    rw c.set_of-set.ensures at (c.into.ensures ∙ c.check.ensures)
