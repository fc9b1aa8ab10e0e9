-- `columns::regions` fills the column of the regions: the invariant is Front.
-- Assumes nothing.
use Prim.Native.Nat.{ℕ}
use native.Mathlib.Omega.{arith}
use mathlib.Core.Path.{◌≡◌, ◌∙◌}
use lib.IntN.{ℤ, pos}
use lib.ListN.{get_or}
use Rattle.base.proofs.Machine.{both_arrive}
use Rattle.rules.specs.Places.{region_of}
use Rattle.rules.specs.Tables.{place_in}
use Rattle.rules.proofs.Places.{region_less}
use Rattle.index.specs.Columns.{region_in}
use Rattle.words.proofs.Filling.{front_more}
use borrow.Author.Rules.{rules}
use Rattle.index.proofs.columns.regions.Goals as goal

told : (c : goal.After-region_of) →
    let a = c.args in
    c.region_of.result ≡ region_in a.table.east.now a.table.north.now a.grid c.loop-stand.stand
told c =
    let a = c.args in
    let i = c.loop-stand.stand in
    let region : ℤ → ℤ → ℕ = λ e n. region_of a.grid (record { east = e; north = n }) in
    c.region_of.ensures ∙ both_arrive region (get_or a.table.east.now i (pos 0)) (get_or a.table.north.now i (pos 0)) (search rules) (search rules)

pub overflow_cast-column : goal.overflow_cast-column
overflow_cast-column c =
    let a = c.args in
    let p = c.requires in
    let i = c.loop-stand.stand in
    omega (arith, told c, region_less a.grid (place_in a.table.east.now a.table.north.now i) p.lawful (p.inside i c.loop-stand-test.true))

pub loop-stand-preserved : goal.loop-stand-preserved
loop-stand-preserved c = front_more c.loop-stand.invariant c.loop-stand-test.true (told c)
