-- `notes::note` meets its contract: the loop's invariant is Noting, by the entries that are left.
-- Assumes nothing.
use borrow.Author.Rules.{rules}
use Rattle.runs.proofs.Noting.{note_more}
use Rattle.runs.proofs.notes.note.Goals as goal

pub loop-i-preserved : goal.loop-i-preserved
loop-i-preserved c = search (rules, note_more)
