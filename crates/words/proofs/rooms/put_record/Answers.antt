-- `words::rooms::put_record` meets its contract: a record that is not kept has no words. Assumes nothing.
use mathlib.Core.Path.{sym}
use Rattle.words.proofs.Overs.{over_none}
use Rattle.words.proofs.rooms.put_record.Goals as goal

pub returns-else-own : goal.returns-else-own
returns-else-own c = rw c.if-own.false (sym (over_none c.args.room.now c.args.at))
