-- `words::count` meets its contract: the loop's invariant is `Counting`, whose laws are of proofs/Walks.antt. Assumes nothing.
use mathlib.Core.Path.{ap, ◌∙◌}
use Prim.Native.Nat.{ℕ}
use lib.ListN.{set}
use Rattle.std.specs.Int.{from_bool}
use Rattle.words.proofs.Walks.{counting, held_is, counting_more}
use Rattle.words.proofs.count.Goals as goal

pub loop-cursor-init : goal.loop-cursor-init
loop-cursor-init c = counting c.root-cursor.ensures c.args.columns.lawful.grows c.count_nodes-all.ensures

pub loop-cursor-preserved : goal.loop-cursor-preserved
loop-cursor-preserved c =
    let s = c.loop-cursor.invariant in
    let lt = c.loop-cursor-test.true in
    let bits = c.regions_under-bits.ensures in
    let own = c.from-in-loop-cursor.ensures ∙ ap from_bool c.keeps-own.ensures in
    counting_more s lt bits own (held_is s lt bits own) (ap (λ (l : ℕ). set c.loop-cursor.regions l c.regions_under-bits.result) c.from.ensures) c.step-cursor.ensures
