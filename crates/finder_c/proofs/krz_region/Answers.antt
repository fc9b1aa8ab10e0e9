-- `krz_region` tells the region's numbers. Assumes nothing.
use Rattle.std.proofs.Common.{◌∙◌}
use Rattle.finder_c.proofs.krz_region.Goals as goal

pub returns : goal.returns
returns c = c.into.ensures ∙ c.locate.ensures
