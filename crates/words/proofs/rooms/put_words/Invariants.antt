-- What the loop of `rooms::put_words` keeps.
use Prim.Native.Nat.{◌+◌}
use lib.ListN.{drop}
use Rattle.words.proofs.Overs.{Filled}
use Rattle.words.proofs.rooms.put_words.Given as goal

abbrev pub invariant-loop-i : goal.invariant-loop-i
invariant-loop-i l =
    Filled l.initial.room l.at l.words l.room (drop l.i l.words) (l.at + l.i)
