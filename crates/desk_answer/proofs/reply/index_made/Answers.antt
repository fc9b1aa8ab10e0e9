-- `reply::index_made`: the rooms are large enough, so a refusal is the table's; else what was built is lawful, and the check says so.
-- Assumes nothing.
use native.Mathlib.Omega.{arith}
use Rattle.std.proofs.lemmas.Result.{err_from_is_err_and}
use Rattle.desk_answer.specs.Promises.{rooms_index}
use Rattle.desk_answer.proofs.Building.{Rooms, built_lawful, never_unlawful, index-passed, index-refused}
use Rattle.desk_answer.proofs.reply.index_made.Goals as goal

pub returns-in_err-build : goal.returns-in_err-build
returns-in_err-build c =
    let p = err_from_is_err_and c.from_residual.result c.from_residual.ensures.1 in
    let rooms : Rooms (rooms_index c.args.rooms.now) = record { order = omega arith; nodes = omega arith; entries = omega arith; bits = omega arith } in
    rw (p.1, p.2) (index-refused _ _ _ c.requires rooms _ _ c.in_err-build.ensures)

pub returns-in_err-ok_or : goal.returns-in_err-ok_or
returns-in_err-ok_or c =
    let law = built_lawful _ _ _ _ _ c.in_ok-build.ensures in
    never_unlawful _ _ _ law (rw (c.in_err-ok_or.ensures.ok_part, c.index.ensures) at c.check.ensures)

pub returns : goal.returns
returns c = index-passed _ _ _ _ _ c.in_ok-build.ensures
