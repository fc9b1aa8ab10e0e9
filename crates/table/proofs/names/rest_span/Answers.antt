-- `names::rest_span` gives where the rest of a name lies, or the empty span at 0.
-- Assumes nothing.
use mathlib.Core.Path.{sym, ◌∙◌}
use borrow.Author.Rules.{rules}
use Rattle.table.proofs.Parts.{too_short, rest, no_rest}
use Rattle.table.proofs.names.rest_span.Goals as goal

pub returns-then-past-from : goal.returns-then-past-from
returns-then-past-from c = too_short _ _ _ _ c.name_span-start.ensures _ (search rules)

pub returns-then-begins : goal.returns-then-begins
returns-then-begins c = rest _ _ _ _ c.name_span-start.ensures _ (search rules) (sym c.begins.ensures ∙ c.if-begins.true)

pub returns : goal.returns
returns c = no_rest _ _ _ _ c.name_span-start.ensures _ (search rules) (sym c.begins.ensures ∙ c.if-begins.false)
