-- `node::Work::tally` meets its contract: the loop's invariant is `Tallying`, whose laws are of proofs/Held.antt. Assumes nothing.
use borrow.Author.Rules.{rules}
use native.Mathlib.Omega.{arith}
use mathlib.Core.Path.{◌≡◌, refl, ap, ◌∙◌}
use mathlib.Core.Bool.{cond}
use mathlib.Core.List.{List}
use Prim.Native.Nat.{ℕ}
use borrow.Author.Tests.{ne_eqb}
use Rattle.base.specs.Bits.{bit_at}
use Rattle.node.specs.Columns.{at}
use Rattle.node.proofs.Held.{tallying, tallying_more, place_small}
use Rattle.node.proofs.Work.tally.Goals.{then-known, else-known}
use Rattle.node.proofs.Work.tally.Goals as goal

pub loop-stand-init : goal.loop-stand-init
loop-stand-init c = let p = c.requires in (tallying _ _ _ _ _ _ _ p.run.0 p.places_size p.best_size, (refl, refl, refl))

pub overflow_add-self : goal.overflow_add-self
overflow_add-self c =
    let r = c.region_at-slot.result in
    let place : c.if-known.place.0 ≡ cond (bit_at c.loop-stand.bits r) (at c.loop-stand.self.places r) (at c.args.self.now.next r) =
    elim c.if-known.branch [
      | then-known w ↦ rw w.if-known.true (ap (λ (p : ℕ × ℕ). p.0) w.place-is)
      | else-known w ↦ rw (ne_eqb _ _ w.if-known.false) (ap (λ (p : ℕ × ℕ). p.0) w.place-is ∙ ap (λ (l : List ℕ). at l r) c.loop-stand.invariant.1.0)
    ] in
    omega (
      arith,
      place_small _ _ _ _ _ _ _ _ _ _ c.loop-stand.invariant.0 (search rules) c.region_at-slot.ensures.0 c.region_at-slot.ensures.1 _ place
          (c.requires.low r c.region_at-slot.ensures.1) (search rules),
    )

pub loop-stand-preserved : goal.loop-stand-preserved
loop-stand-preserved c =
    let r = c.region_at-slot.result in
    let place : c.if-known.place.0 ≡ cond (bit_at c.loop-stand.bits r) (at c.loop-stand.self.places r) (at c.args.self.now.next r) =
    elim c.if-known.branch [
      | then-known w ↦ rw w.if-known.true (ap (λ (p : ℕ × ℕ). p.0) w.place-is)
      | else-known w ↦ rw (ne_eqb _ _ w.if-known.false) (ap (λ (p : ℕ × ℕ). p.0) w.place-is ∙ ap (λ (l : List ℕ). at l r) c.loop-stand.invariant.1.0)
    ] in
    let so_far : c.if-known.place.1 ≡ cond (bit_at c.loop-stand.bits r) (at c.loop-stand.self.best r) 0 =
    elim c.if-known.branch [
      | then-known w ↦ rw w.if-known.true (ap (λ (p : ℕ × ℕ). p.1) w.place-is)
      | else-known w ↦ rw (ne_eqb _ _ w.if-known.false) (ap (λ (p : ℕ × ℕ). p.1) w.place-is)
    ] in (
      tallying_more _ _ _ _ _ _ _ _ _ _ c.loop-stand.invariant.0 (search rules) c.region_at-slot.ensures.0 c.region_at-slot.ensures.1
          _ place _ _ so_far c.max.ensures,
      c.loop-stand.invariant.1,
    )
