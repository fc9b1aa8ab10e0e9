-- `words::turn::check_node` meets its contract, by those of the calls that it makes and the laws of proofs/Turns.antt. Assumes nothing.
use mathlib.Core.Path.{sym, ◌∙◌}
use Rattle.words.proofs.Turns.{gather_asks, row_differs, entries_differ, record_differs, agrees}
use Rattle.words.proofs.turn.check_node.Goals as goal

pub gather-gathered-requires : goal.gather-gathered-requires
gather-gathered-requires c = gather_asks c.requires c.args.columns.lawful

pub returns-then-not-has_words : goal.returns-then-not-has_words
returns-then-not-has_words c = row_differs c.requires c.gather-gathered.ensures c.serve-served.ensures c.row-words.ensures (sym c.has_words.ensures ∙ c.if-not-has_words.true)

pub returns-then-not-has_entries : goal.returns-then-not-has_entries
returns-then-not-has_entries c = entries_differ c.requires c.gather-gathered.ensures c.serve-served.ensures (sym c.has_entries.ensures ∙ c.if-not-has_entries.true)

pub returns-then-not-has_record : goal.returns-then-not-has_record
returns-then-not-has_record c = record_differs c.requires c.gather-gathered.ensures c.serve-served.ensures (sym c.has_record.ensures ∙ c.if-not-has_record.true)

pub returns : goal.returns
returns c =
    agrees c.requires c.gather-gathered.ensures c.serve-served.ensures c.row-words.ensures
    (sym c.has_words.ensures ∙ c.if-not-has_words.false) (sym c.has_entries.ensures ∙ c.if-not-has_entries.false)
    (sym c.has_record.ensures ∙ c.if-not-has_record.false) c.advance.ensures
