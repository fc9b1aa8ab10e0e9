-- What the loop of `rooms::put_entries` keeps.
use Prim.Native.Nat.{◌+◌, ◌*◌}
use Rattle.words.specs.Words.{entry_rows, entries_held}
use Rattle.words.proofs.Overs.{Filled, slots_from}
use Rattle.words.proofs.rooms.put_entries.Given as goal

abbrev pub invariant-loop-rank : goal.invariant-loop-rank
invariant-loop-rank l =
    Filled l.initial.room l.at (entry_rows (entries_held l.work l.held)) l.room (slots_from l.work l.held l.rank) (l.at + l.rank * 4)
