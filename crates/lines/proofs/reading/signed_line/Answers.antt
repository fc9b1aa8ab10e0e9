-- `signed_line` reads a signed number from its line.
-- Assumes nothing.
use borrow.Author.Rules.{rules}
use Rattle.lines.specs.Reads.{signed_in}
use Rattle.lines.proofs.reading.signed_line.Goals as goal

pub returns : goal.returns
returns c = c.value_line.ensures signed_in (λ bytes r call. search rules)
