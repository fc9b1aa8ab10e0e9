-- `group::read_by` reads a stand's four lines in a row: each answer says what one line left.
-- Assumes nothing.
use native.Mathlib.Omega.{arith}
use mir.Syntax.{w32}
use mir.Facts.{to_z-of_z}
use borrow.Author.Rules.{rules}
use Rattle.std.proofs.lemmas.Result.{err_from_is_err_and}
use Rattle.lines.specs.Reads.{onward}
use Rattle.desk_form.specs.Reads.{stand_by, past, first_bad}
use Rattle.desk_form.proofs.Readings.{torn_at}
use Rattle.desk_form.proofs.group.read_by.Goals as goal

pub returns-in_err-name : goal.returns-in_err-name
unfolding stand_by first_bad past onward
returns-in_err-name c =
    let p = err_from_is_err_and c.from_residual.result c.from_residual.ensures.1 in
    let torn = torn_at _ _ _ c.in_err-name.ensures.value in
    let e = rw torn.0 at c.bytes_line.ensures in
    rw (p.1, p.2, torn.1) (record { none = rw e; bad = rw e; of_four = omega arith })

pub returns-in_err-east : goal.returns-in_err-east
unfolding stand_by first_bad past onward
returns-in_err-east c =
    let p = err_from_is_err_and c.from_residual-in_err-east.result c.from_residual-in_err-east.ensures.1 in
    let torn = torn_at _ _ _ c.in_err-east.ensures.value in
    let name = (rw c.in_ok-name.ensures.ok_part at c.bytes_line.ensures).reached.is in
    let e = rw torn.0 at c.signed_line.ensures in
    rw (p.1, p.2, torn.1) (record { none = rw (name, e); bad = rw (name, e); of_four = omega arith })

pub returns-in_err-north : goal.returns-in_err-north
unfolding stand_by first_bad past onward
returns-in_err-north c =
    let p = err_from_is_err_and c.from_residual-in_err-north.result c.from_residual-in_err-north.ensures.1 in
    let torn = torn_at _ _ _ c.in_err-north.ensures.value in
    let name = (rw c.in_ok-name.ensures.ok_part at c.bytes_line.ensures).reached.is in
    let east = (rw c.in_ok-east.ensures.ok_part at c.signed_line.ensures).is in
    let e = rw torn.0 at c.signed_line-2.ensures in
    rw (p.1, p.2, torn.1) (record { none = rw (name, east, e); bad = rw (name, east, e); of_four = omega arith })

pub returns-in_err-score : goal.returns-in_err-score
unfolding stand_by first_bad past onward
returns-in_err-score c =
    let p = err_from_is_err_and c.from_residual-in_err-score.result c.from_residual-in_err-score.ensures.1 in
    let torn = torn_at _ _ _ c.in_err-score.ensures.value in
    let name = (rw c.in_ok-name.ensures.ok_part at c.bytes_line.ensures).reached.is in
    let east = (rw c.in_ok-east.ensures.ok_part at c.signed_line.ensures).is in
    let north = (rw c.in_ok-north.ensures.ok_part at c.signed_line-2.ensures).is in
    let e = rw torn.0 at c.unsigned_line.ensures in
    rw (p.1, p.2, torn.1) (record { none = rw (name, east, north, e); bad = rw (name, east, north, e); of_four = omega arith })

pub returns : goal.returns
unfolding stand_by onward
returns c =
    let name = rw c.in_ok-name.ensures.ok_part at c.bytes_line.ensures in
    let east = rw c.in_ok-east.ensures.ok_part at c.signed_line.ensures in
    let north = rw c.in_ok-north.ensures.ok_part at c.signed_line-2.ensures in
    let score = rw c.in_ok-score.ensures.ok_part at c.unsigned_line.ensures in
    rw (to_z-of_z {w = w32} {z = c.in_ok-east.east} (search rules), to_z-of_z {w = w32} {z = c.in_ok-north.north} (search rules))
    (record {
      begun = name.begun;
      forward = name.forward;
      inside = omega (arith, name.reached.within);
      reached = record { within = score.within; is = rw (name.reached.is, east.is, north.is, score.is) };
    })
