-- `Cells::least` meets its contract: the lowest set bit of the first word that is not 0.
-- Assumes nothing.
use Rattle.std.proofs.Common.{sym, ap, arith, rules}
use lib.Count.{trailing_le}
use Rattle.base.specs.Lists.{first_of}
use Rattle.grid.proofs.Listed.{from_low, from_high, some_high}
use Rattle.grid.proofs.cells.Cells.least.Goals as goal

pub returns-then-low-ne0 : goal.returns-then-low-ne0
returns-then-low-ne0 c = sym (ap first_of (from_low c.args.self (search rules) (search rules)))

pub overflow_add-result : goal.overflow_add-result
overflow_add-result c = omega (arith, trailing_le 32 c.args.self.high)

pub returns : goal.returns
returns c = search (rules, from_high, some_high)
