-- `words::turn::write_node` meets its contract, by those of the calls that it makes and the laws of proofs/Turns.antt. Assumes nothing.
use borrow.Author.Rules.{rules}
use mathlib.Core.Path.{ap}
use native.Mathlib.Omega.{arith}
use lib.ListN.{length}
use Rattle.words.proofs.Turns.{gather_asks, count_now, record_now, moved, wrote}
use Rattle.words.proofs.turn.write_node.Goals as goal

pub gather-gathered-requires : goal.gather-gathered-requires
gather-gathered-requires c = gather_asks c.requires.standing c.args.columns.lawful

pub put_entries-requires : goal.put_entries-requires
put_entries-requires c =
    let g = c.gather-gathered.ensures in
    (search rules, omega (arith, c.requires.room.entry_room, count_now c.requires.standing g c.serve-served.ensures))

pub put_record-requires : goal.put_record-requires
put_record-requires c =
    omega (arith, c.requires.room.record_room, ap length (record_now c.requires.standing c.gather-gathered.ensures c.serve-served.ensures))

pub returns : goal.returns
returns c =
    let p = c.requires.standing in
    let g = c.gather-gathered.ensures in
    record {
      moved = moved p g c.serve-served.ensures c.advance.ensures;
      wrote = wrote p g c.serve-served.ensures c.row-words.ensures c.put_words.ensures c.put_entries.ensures c.put_record.ensures;
    }
