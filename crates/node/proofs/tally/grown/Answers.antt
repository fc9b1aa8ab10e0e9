-- `node::tally::grown` meets its contract: the loop's invariant is `Growing`, whose laws are of proofs/Ends.antt. Assumes nothing.
use borrow.Author.Rules.{rules}
use native.Mathlib.Omega.{arith}
use Rattle.node.proofs.Ends.{growing_more, growing_fits, growing_end}
use Rattle.node.proofs.tally.grown.Goals as goal

pub overflow_add-sum : goal.overflow_add-sum
overflow_add-sum c =
    omega (
      arith,
      growing_fits _ _ _ _ _ _ _ c.args.columns.lawful.grows (search rules) c.loop-stand.invariant (search rules) c.from-sum.ensures,
    )

pub loop-stand-preserved : goal.loop-stand-preserved
loop-stand-preserved c = search (rules, growing_more)

pub returns : goal.returns
returns c = search (rules, growing_end)
