-- `put_line` puts key, value and line feed in a row.
-- Assumes nothing.
use native.Mathlib.Omega.{arith}
use Rattle.lines.specs.Writing.{line}
use Rattle.lines.proofs.Appending.{then, line-long}
use Rattle.lines.proofs.putting.put_line.Goals as goal

pub put-at-requires : goal.put-at-requires
put-at-requires c = omega (arith, simp line-long at c.requires)

pub put-at-requires-2 : goal.put-at-requires-2
put-at-requires-2 c = omega (arith, simp line-long at c.requires, c.put-at.ensures.next)

pub put-requires : goal.put-requires
put-requires c = omega (arith, simp line-long at c.requires, c.put-at.ensures.next, c.put-at-2.ensures.next)

pub returns : goal.returns
unfolding line
returns c = then c.put-at.ensures (then c.put-at-2.ensures c.put.ensures)
