-- `Search::take_entry` meets its contract: passed over, or its stands are offered. Assumes nothing.
use native.Mathlib.Omega.{arith}
use mathlib.Core.Path.{sym, ◌∙◌}
use Rattle.walk.proofs.Spelled.{within_facts}
use Rattle.search.proofs.Reading.{entry_facts}
use Rattle.search.proofs.Taking.{passed, not_passed}
use Rattle.search.proofs.search.Search.take_entry.Goals as goal

pub returns-then-passed_over : goal.returns-then-passed_over
returns-then-passed_over c = passed _ _ _ _ _ _ c.requires.0 (sym c.passed_over.ensures ∙ c.if-passed_over.true)

pub offer_places-requires : goal.offer_places-requires
offer_places-requires c =
    let p = c.requires in
    (p.0, record { forward = omega (arith, (entry_facts _ _ p.1.sound).some); inside = (within_facts _ _ p.1.inside).1 })

pub returns : goal.returns
returns c = not_passed _ _ _ _ _ _ _ _ (sym c.passed_over.ensures ∙ c.if-passed_over.false) c.offer_places.ensures
