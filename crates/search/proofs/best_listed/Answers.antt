-- `search::best_listed` meets its contract: its ways out are the laws of proofs/Answering.antt. Assumes nothing.
use borrow.Author.Rules.{rules}
use mathlib.Core.Logic.{inl, inr}
use Rattle.std.proofs.lemmas.Result.{err_from_is_err_and}
use Rattle.search.proofs.Answering.{short_column, found_best}
use Rattle.search.proofs.best_listed.Goals as goal

pub returns-in_err-ok_or : goal.returns-in_err-ok_or
returns-in_err-ok_or c =
    let p = err_from_is_err_and c.from_residual.result c.from_residual.ensures.1 in
    rw (p.1, p.2) (short_column _ _ _ _ _ _ _ _ (inl (search rules)))

pub returns-in_err-ok_or-2 : goal.returns-in_err-ok_or-2
returns-in_err-ok_or-2 c =
    let p = err_from_is_err_and c.from_residual-in_err-ok_or-2.result c.from_residual-in_err-ok_or-2.ensures.1 in
    rw (p.1, p.2) (short_column _ _ _ _ _ _ _ _ (inr (search rules)))

pub returns : goal.returns
returns c =
    rw c.keys.ensures
    (found_best _ _ _ _ _ _ _ _ (search rules) (search rules) c.in_ok-ok_or.field-0.now c.in_ok-ok_or-2.field-0.now _ _ _ (search rules) (search rules) c.none-held.ensures
    c.take_entries.ensures c.requires.stands_fit c.requires.values_fit _ _ _ c.in_ok-take_entries.was c.write_held.ensures)
