-- `Search::passed_over` meets its contract: the last key held decides, by a leg of the way to the cell or by the bound itself.
-- Assumes nothing.
use native.Mathlib.Omega.{arith}
use mathlib.Core.Path.{sym, ◌∙◌}
use Rattle.grid.proofs.Ways.{short}
use Rattle.walk.proofs.Spelled.{within_facts}
use Rattle.search.proofs.Asking.{asked-inside, some_asked}
use Rattle.search.proofs.Reading.{entry_facts}
use Rattle.search.proofs.Keeping.{not_full, last_decides}
use Rattle.search.proofs.Legs.{late_passed, entry_inside, entry_keyable, entry_bound}
use Rattle.search.proofs.search.Search.passed_over.Goals as goal

pub kth-requires : goal.kth-requires
kth-requires c = omega (arith, some_asked _ _ c.args.self.now.ready.asks)

pub returns-in_default : goal.returns-in_default
returns-in_default c = not_full _ _ _ (sym c.kth.ensures.last ∙ c.in_default.is)

pub way_to_region-way-requires : goal.way_to_region-way-requires
way_to_region-way-requires c =
    let asks = c.args.self.now.ready.asks in
    record { lawful = asks.grid; inside = asked-inside _ _ asks; small = (within_facts _ _ c.requires.inside).0 }

pub bounds-self-entry : goal.bounds-self-entry
bounds-self-entry c = omega (arith, (entry_facts _ _ c.requires.sound).some, (within_facts _ _ c.requires.inside).1)

pub late_by_leg-requires : goal.late_by_leg-requires
late_by_leg-requires c = entry_keyable _ _ _ c.args.self.now.ready _ _ c.requires _ c.way_to_region-way.ensures

pub returns-then-late_by_leg : goal.returns-then-late_by_leg
returns-then-late_by_leg c =
    let s = c.args.self.now in
    late_passed _ s.asked _ _ _ _ _ (sym (last_decides _ _ _ _ (sym c.kth.ensures.last ∙ c.in-Some.is)) ∙ sym c.late_by_leg.ensures ∙ c.if-late_by_leg.true)
    ∙ entry_bound _ _ _ s.ready _ _ c.requires _ c.way_to_region-way.ensures _ _

pub length-requires : goal.length-requires
length-requires c = let s = c.args.self.now in short _ _ (entry_inside _ _ _ s.ready _ _ c.requires _ c.way_to_region-way.ensures) s.ready.asks.grid

pub key_at-requires : goal.key_at-requires
key_at-requires c =
    let k = entry_keyable _ _ _ c.args.self.now.ready _ _ c.requires _ c.way_to_region-way.ensures in
    record { weighs = k.weighs; near = rw c.length.ensures k.near; below = omega (arith, k.below) }

pub returns : goal.returns
returns c =
    rw (c.key_at.ensures, c.length.ensures)
    (last_decides _ _ _ _ (sym c.kth.ensures.last ∙ c.in-Some.is) ∙ entry_bound _ _ _ c.args.self.now.ready _ _ c.requires _ c.way_to_region-way.ensures _ _)
