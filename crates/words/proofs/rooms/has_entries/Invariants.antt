-- What the loop of `rooms::has_entries` keeps.
use Prim.Native.Nat.{◌+◌, ◌*◌}
use Rattle.words.specs.Words.{entry_rows, entries_held}
use Rattle.words.proofs.Overs.{From, slots_from}
use Rattle.words.proofs.rooms.has_entries.Given as goal

abbrev pub invariant-loop-rank : goal.invariant-loop-rank
invariant-loop-rank l =
    From l.room l.at (entry_rows (entries_held l.work l.held)) (slots_from l.work l.held l.rank) (l.at + l.rank * 4)
