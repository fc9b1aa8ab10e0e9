-- `Cells::is_empty` meets its contract: a set whose words are both 0 has no region.
-- Assumes nothing.
use Rattle.std.proofs.Common.{sym, ap, rules}
use Rattle.base.specs.Lists.{is_empty}
use Rattle.grid.proofs.Listed.{from_low, empty_by}
use Rattle.grid.proofs.cells.Cells.is_empty.Goals as goal

pub returns-then-self-ne0 : goal.returns-then-self-ne0
returns-then-self-ne0 c = sym (ap is_empty (from_low c.args.self (search rules) (search rules)))

pub returns : goal.returns
returns c = search (rules, empty_by)
