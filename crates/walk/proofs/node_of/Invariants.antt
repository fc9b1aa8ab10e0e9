-- What the loop of `node_of` keeps.
use Rattle.walk.proofs.Steps.{Walking}
use Rattle.walk.proofs.node_of.Given as goal

abbrev pub invariant-loop-byte : goal.invariant-loop-byte
invariant-loop-byte l =
    Walking l.nodes l.typed l.at.0 l.byte-index
