-- `columns::read_stands` lays out stand by stand: the invariant is Laying.
-- Assumes nothing.
use mathlib.Core.Path.{refl}
use Prim.Native.Nat.{ℕ}
use native.Mathlib.Omega.{arith}
use mir.Syntax.{w32}
use mir.Facts.{to_z-of_z}
use lib.ListN.{length-set}
use borrow.Author.Rules.{rules}
use Rattle.desk_form.proofs.Readings.{ok_given, ok_missing}
use Rattle.desk_form.proofs.Layouts.{lay_none, lay_one, no_stand, all_laid, first_start, from_entry}
use Rattle.desk_form.proofs.columns.read_stands.Goals as goal

pub loop-i-init : goal.loop-i-init
loop-i-init c =
    lay_none _ _ _ _ c.requires
    (record { starts = omega (arith, length-set {A = ℕ}); east = omega arith; north = omega arith; score = omega arith })
    (first_start c.args.parts.now.starts (omega arith))

pub returns-in_err-stand : goal.returns-in_err-stand
returns-in_err-stand c =
    let torn = ok_missing c.read_stand.result c.in_err-stand.ensures.value in
    rw c.from_residual.ensures (no_stand _ _ _ _ _ _ _ _ c.loop-i-test.true (rw torn.1 at c.read_stand.ensures).none c.loop-i.invariant)

pub loop-i-preserved : goal.loop-i-preserved
loop-i-preserved c =
    let stand = rw (ok_given c.read_stand.result _ c.in_ok-stand.ensures.value) at c.read_stand.ensures in
    rw (to_z-of_z {w = w32} {z = c.in_ok-stand.stand.east} (search rules), to_z-of_z {w = w32} {z = c.in_ok-stand.stand.north} (search rules))
    (lay_one _ _ _ _ _ _ _ _ _ _ _ _ _ _ _ stand c.loop-i.invariant c.requires c.loop-i-test.true _ _ _ _ _ _ c.put-bytes.ensures refl refl refl refl)

pub returns : goal.returns
returns c = from_entry _ _ _ _ _ _ _ _ _ _ (all_laid _ _ _ _ _ _ _ _ c.loop-i-test.false c.loop-i.invariant)
