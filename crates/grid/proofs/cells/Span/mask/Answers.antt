-- `grid::cells::Span::mask` meets its contract. 2 ^ past - 2 ^ first is the word of the columns between; with none, 2 ^ past is the less.
-- Assumes nothing.
use Rattle.std.proofs.Common.{sym, ◌∙◌, arith, pow_mono}
use Rattle.base.proofs.Words.{word_between, one_shifted}
use Rattle.grid.specs.Cells.{in_span}
use Rattle.grid.proofs.cells.Span.mask.Goals as goal

pub returns-then-past-first : goal.returns-then-past-first
unfolding in_span
returns-then-past-first c =
    let span = c.args.self in
    sym (word_between span.first span.past 8 c.requires ∙ omega (arith, pow_mono {i = span.past} {j = span.first} c.if-past-first.true))

pub overflow_sub-result : goal.overflow_sub-result
overflow_sub-result c =
    let span = c.args.self in
    rw (one_shifted 32 span.past (omega arith), one_shifted 32 span.first (omega arith)) (pow_mono {i = span.first} {j = span.past} (omega arith))

pub returns : goal.returns
unfolding in_span
returns c =
    let span = c.args.self in
    rw (one_shifted 32 span.past (omega arith), one_shifted 32 span.first (omega arith)) (sym (word_between span.first span.past 8 c.requires))
