-- `words::count_nodes` meets its contract: the root, and what the stands make. Assumes nothing.
use native.Mathlib.Omega.{arith}
use lib.ListN.{length}
use Rattle.node.proofs.Ends.{grown_small}
use Rattle.words.proofs.Walks.{node_count_lem}
use Rattle.words.proofs.count_nodes.Goals as goal

pub overflow_add-result : goal.overflow_add-result
overflow_add-result c = omega (arith, c.grown.ensures, grown_small _ _ c.args.columns.lawful.grows 0 (length c.args.columns.lengths.now) (omega arith))

pub returns : goal.returns
returns c = omega (arith, c.grown.ensures, node_count_lem _ _ c.args.columns.lawful.grows)
