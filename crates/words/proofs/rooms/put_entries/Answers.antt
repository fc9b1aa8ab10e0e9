-- `words::rooms::put_entries` meets its contract: the loop's invariant is `Filled`, entry after entry, by the laws of proofs/Overs.antt. Assumes nothing.
use native.Mathlib.Omega.{arith}
use mathlib.Core.Path.{ap}
use lib.ListN.{length}
use Rattle.words.proofs.Overs.{filled_more, filled_end, slots_filled, slots_next, slots_past}
use Rattle.words.proofs.rooms.put_entries.Goals as goal

pub loop-rank-init : goal.loop-rank-init
loop-rank-init c = let p = c.requires in slots_filled _ _ p.0.size p.0.few (omega arith) p.1

pub loop-rank-preserved : goal.loop-rank-preserved
loop-rank-preserved c =
    let p = c.requires in
    let row = c.entry_row-row.ensures in
    filled_more c.loop-rank.invariant (slots_next _ _ p.0.size p.0.few _ c.loop-rank-test.true row)
    c.put_words.ensures (omega (arith, ap length row))

pub returns : goal.returns
returns c = let p = c.requires.0 in filled_end c.loop-rank.invariant (slots_past _ _ p.size p.few _ c.loop-rank-test.false)
