-- `unsigned_line` reads a number from its line.
-- Assumes nothing.
use borrow.Author.Rules.{rules}
use Rattle.lines.specs.Reads.{decimal_in}
use Rattle.lines.proofs.reading.unsigned_line.Goals as goal

pub returns : goal.returns
returns c = c.value_line.ensures (decimal_in c.args.most) (λ bytes r call. search rules)
