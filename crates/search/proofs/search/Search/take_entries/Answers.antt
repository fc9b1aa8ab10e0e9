-- `Search::take_entries` meets its contract: its loop's invariant is `Taking`, whose laws are of proofs/Taking.antt. Assumes nothing.
use borrow.Author.Rules.{rules}
use mathlib.Core.Path.{sym}
use Rattle.std.proofs.lemmas.Result.{err_from_is_err_and}
use Rattle.walk.proofs.Spelled.{read_within}
use Rattle.search.proofs.Taking.{take_done, unread, unusable, take_next, take_stop}
use Rattle.search.proofs.search.Search.take_entries.Goals as goal

pub returns-in_err-entry : goal.returns-in_err-entry
returns-in_err-entry c = let p = err_from_is_err_and c.from_residual.result c.from_residual.ensures.1 in
    rw (p.1, p.2) (unread _ _ _ _ _ _ _ _ _ c.loop-number.invariant c.loop-number-test.true _ c.entry_at.ensures _ c.in_err-entry.was)

pub usable-requires : goal.usable-requires
usable-requires c = search (rules, read_within)

pub returns-then-not-usable : goal.returns-then-not-usable
returns-then-not-usable c = unusable _ _ _ _ _ _ _ _ _ c.loop-number.invariant c.loop-number-test.true _ c.entry_at.ensures _ c.in_ok-entry.was (sym c.if-not-usable.ensures)

pub take_entry-requires : goal.take_entry-requires
take_entry-requires c = (c.loop-number.invariant.few, record { inside = search (rules, read_within); sound = sym c.if-not-usable.ensures })

pub returns-in_err-take_entry : goal.returns-in_err-take_entry
returns-in_err-take_entry c = let p = err_from_is_err_and c.from_residual-in_err-take_entry.result c.from_residual-in_err-take_entry.ensures.1 in
    rw (p.1, p.2) (take_stop _ _ _ _ _ _ _ _ _ c.loop-number.invariant c.loop-number-test.true _ c.entry_at.ensures _ c.in_ok-entry.was (sym c.if-not-usable.ensures) _ _ c.take_entry.ensures _ c.in_err-take_entry.was)

pub loop-number-preserved : goal.loop-number-preserved
loop-number-preserved c = search (rules, take_next)

pub returns : goal.returns
returns c = search (rules, take_done)
