-- `node::past_number` meets its contract: the longer nodes of the first stand, and what the stands behind it add. Assumes nothing.
use mathlib.Core.Path.{ap, ◌∙◌}
use native.Mathlib.Omega.{arith}
use native.Mathlib.Numerals.{add-one}
use Prim.Native.Nat.{ℕ, ◌+◌}
use Rattle.node.specs.Columns.{grown_of}
use Rattle.node.proofs.Ends.{length-short, grown_small}
use Rattle.node.proofs.Gathering.{past_is}
use Rattle.node.proofs.past_number.Goals as goal

pub overflow_add-result-3 : goal.overflow_add-result-3
overflow_add-result-3 c =
    let own = length-short _ _ c.args.columns.lawful.grows c.args.cursor.stand.0 in
    let grew = grown_small _ _ c.args.columns.lawful.grows (c.args.cursor.stand.0 + 1) c.args.past.0 c.requires.run.1 in
    omega (arith, c.from-own.ensures, c.value_at.ensures, c.grown-grew.ensures, c.requires.low)

pub returns : goal.returns
returns c =
    let a = c.args in
    let is = past_is _ _ c.args.columns.lawful.grows a.cursor.stand.0 a.cursor.length a.past.0 a.cursor.number.0 c.requires.long c.requires.some c.requires.run.1 in
    let grew = c.grown-grew.ensures ∙ ap (λ (i : ℕ). grown_of a.columns.lengths.now a.columns.shared.now i a.past.0) (add-one a.cursor.stand.0) in
    omega (arith, is, grew, c.from-own.ensures, c.value_at.ensures)
