-- `Cells::count` meets its contract: a word has as many ones as set bits, at most 32.
-- Assumes nothing.
use Rattle.std.proofs.Common.{arith, rules}
use lib.Count.{ones-le}
use Rattle.grid.proofs.Listed.{counted}
use Rattle.grid.proofs.cells.Cells.count.Goals as goal

pub overflow_add-result : goal.overflow_add-result
overflow_add-result c =
    let s = c.args.self in
    omega (arith, ones-le 32 s.low (search rules), ones-le 32 s.high (search rules))

pub returns : goal.returns
returns c = search (rules, counted)
