-- `Cells::but_least` meets its contract: the first word that is not 0 loses its lowest set bit.
-- Assumes nothing.
use Rattle.std.proofs.Common.{drop, sym, ap, rules}
use Rattle.grid.proofs.Listed.{from_low, from_high, some_high}
use Rattle.grid.proofs.cells.Cells.but_least.Goals as goal

pub returns-then-low-ne0 : goal.returns-then-low-ne0
returns-then-low-ne0 c = sym (ap (drop 1) (from_low c.args.self (search rules) (search rules)))

pub overflow_sub-result-2 : goal.overflow_sub-result-2
overflow_sub-result-2 c = search (rules, some_high)

pub returns : goal.returns
returns c = search (rules, from_high, some_high)
