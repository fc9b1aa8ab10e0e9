-- `words::rooms::has_entries` meets its contract: the loop's invariant is `From`, entry after entry, by the laws of proofs/Overs.antt. Assumes nothing.
use native.Mathlib.Omega.{arith}
use mathlib.Core.Path.{sym, ap, ◌∙◌}
use native.Mathlib.Nat.{add-zero}
use lib.ListN.{length}
use Rattle.node.specs.Columns.{entries_from}
use Rattle.words.proofs.Overs.{from_not, from_more, from_end, slots_from, slots_next, slots_past}
use Rattle.words.proofs.rooms.has_entries.Goals as goal

pub loop-rank-init : goal.loop-rank-init
unfolding entries_from slots_from
loop-rank-init c = record { is = rw add-zero }

pub returns-then-not-has_words : goal.returns-then-not-has_words
returns-then-not-has_words c =
    let p = c.requires in
    from_not c.loop-rank.invariant
    (slots_next _ _ p.0.size p.0.few _ c.loop-rank-test.true c.entry_row-row.ensures) (sym c.has_words.ensures ∙ c.if-not-has_words.true)

pub loop-rank-preserved : goal.loop-rank-preserved
loop-rank-preserved c =
    let p = c.requires in
    let row = c.entry_row-row.ensures in
    from_more c.loop-rank.invariant (slots_next _ _ p.0.size p.0.few _ c.loop-rank-test.true row)
    (omega (arith, ap length row)) (sym c.has_words.ensures ∙ c.if-not-has_words.false)

pub returns : goal.returns
returns c = let p = c.requires.0 in from_end c.loop-rank.invariant (slots_past _ _ p.size p.few _ c.loop-rank-test.false)
