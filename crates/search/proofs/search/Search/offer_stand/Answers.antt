-- `Search::offer_stand` meets its contract: a stand that can be read has a key, and late by a leg it would change nothing.
-- Assumes nothing.
use mathlib.Core.Path.{sym, ◌∙◌}
use Rattle.grid.proofs.Ways.{short}
use Rattle.search.proofs.Asking.{some_asked, few_asked}
use Rattle.search.proofs.Reading.{stand_facts}
use Rattle.search.proofs.Keeping.{last_decides}
use Rattle.search.proofs.Offering.{unreadable, seen}
use Rattle.search.proofs.Legs.{late_offered, stand_inside, stand_keyable, stand_key}
use Rattle.search.proofs.search.Search.offer_stand.Goals as goal

pub returns-then-not-readable : goal.returns-then-not-readable
returns-then-not-readable c = unreadable _ _ _ _ _ c.requires (sym c.if-not-readable.ensures)

pub place_of-requires : goal.place_of-requires
place_of-requires c = (stand_facts _ _ _ (sym c.if-not-readable.ensures)).has_east

pub bounds-self-s : goal.bounds-self-s
bounds-self-s c = (stand_facts _ _ _ (sym c.if-not-readable.ensures)).has_score

pub kth-requires : goal.kth-requires
kth-requires c = some_asked _ _ c.args.self.now.ready.asks

pub late_by_leg-requires : goal.late_by_leg-requires
late_by_leg-requires c = stand_keyable _ _ _ _ c.args.self.now.ready _ (sym c.if-not-readable.ensures) _ (rw c.place_of.ensures at c.way_between-way.ensures)

pub returns-then-late_by_leg : goal.returns-then-late_by_leg
returns-then-late_by_leg c =
    let s = c.args.self.now in
    seen _ _ _ _ _ _ _ (sym c.if-not-readable.ensures) (stand_key _ _ _ _ s.ready _ (sym c.if-not-readable.ensures) _ (rw c.place_of.ensures at c.way_between-way.ensures))
    (late_offered _ s.asked _ _ _ _ _ (some_asked _ _ s.ready.asks) c.requires c.kth.ensures.falling
    (sym (last_decides _ _ _ _ (sym c.kth.ensures.last ∙ c.in-Some.is)) ∙ sym c.late_by_leg.ensures ∙ c.if-late_by_leg.true))

pub length-requires : goal.length-requires
length-requires c =
    let s = c.args.self.now in
    short _ _ (stand_inside _ _ _ _ s.ready _ (sym c.if-not-readable.ensures) _ (rw c.place_of.ensures at c.way_between-way.ensures)) s.ready.asks.grid

pub key_at-requires : goal.key_at-requires
key_at-requires c = rw c.length.ensures (stand_keyable _ _ _ _ c.args.self.now.ready _ (sym c.if-not-readable.ensures) _ (rw c.place_of.ensures at c.way_between-way.ensures))

pub offer-requires : goal.offer-requires
offer-requires c = let s = c.args.self.now in record { some = some_asked _ _ s.ready.asks; fits = few_asked _ _ s.ready.asks; within = c.requires }

pub returns : goal.returns
returns c =
    seen _ _ _ _ _ _ _ (sym c.if-not-readable.ensures)
    (c.key_at.ensures ∙ rw c.length.ensures (stand_key _ _ _ _ c.args.self.now.ready _ (sym c.if-not-readable.ensures) _ (rw c.place_of.ensures at c.way_between-way.ensures)))
    c.offer.ensures
