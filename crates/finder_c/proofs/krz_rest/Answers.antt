-- `krz_rest` tells where the rest of a name lies: starts are of 32 bits, so its numbers are too.
-- Assumes nothing.
use borrow.Author.Rules.{rules}
use Rattle.finder_c.proofs.Rests.{told}
use Rattle.finder_c.proofs.krz_rest.Goals as goal

pub returns : goal.returns
returns c = told _ _ _ _ _ (search rules)
