-- What the loop of `write` keeps.
use Prim.Native.Nat.{◌-◌}
use Rattle.node.specs.Lent.{columns_of}
use Rattle.words.specs.Words.{rooms_of}
use Rattle.words.proofs.Writes.{Writing}
use Rattle.words.proofs.write.Given as goal

abbrev pub invariant-loop-cursor : goal.invariant-loop-cursor
invariant-loop-cursor l =
    Writing (columns_of l.columns) l.all (rooms_of l.initial.nodes l.initial.entries l.initial.bits) l.work (rooms_of l.nodes l.entries l.bits) l.cursor

abbrev pub decreases-loop-cursor : goal.decreases-loop-cursor
decreases-loop-cursor l =
    l.all - l.cursor.number.0
