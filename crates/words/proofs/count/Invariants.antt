-- What the loop of `count` keeps.
use Prim.Native.Nat.{◌-◌}
use Rattle.words.proofs.Walks.{Counting}
use Rattle.words.proofs.count.Given as goal

abbrev pub invariant-loop-cursor : goal.invariant-loop-cursor
invariant-loop-cursor l =
    Counting l.columns.lengths.now l.columns.shared.now l.columns.region.now l.all l.regions l.cursor

abbrev pub decreases-loop-cursor : goal.decreases-loop-cursor
decreases-loop-cursor l =
    l.all - l.cursor.number.0
