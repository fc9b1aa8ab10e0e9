-- `gather::put` meets its contract: a store past the end of a list leaves it as it is.
-- Assumes nothing.
use lib.Seq.{set_out}
use borrow.Author.Rules.{rules}
use Rattle.range.proofs.gather.put.Goals as goal

pub returns-else-i-found : goal.returns-else-i-found
returns-else-i-found c = search (rules, set_out)
