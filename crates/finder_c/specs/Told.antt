-- What a C record tells, as the rules' numbers; and a promise read through those numbers.
-- A question's promise speaks of numbers alone, and is the same for C. Of the other calls the record holds the numbers of an answer that keeps
-- the promise of the call under it; no two answers have the same numbers (`rules/proofs/Numbers`), so nothing is lost on the way.
use Rattle.std.specs.Prelude.{◌≡◌, List, [], ◌∷◌, ℕ, ℤ, length}
use Rattle.base.specs.Lent.{Lent, LentMut, after}
use Rattle.rules.specs.declared.Grid.{Grid}
use Rattle.rules.specs.declared.Set.{Set}
use Rattle.rules.specs.declared.Place.{Place}
use Rattle.rules.specs.declared.Ranking.{Ranking}
use Rattle.rules.specs.Names.{rest_of, rest_at}
use Rattle.rules.specs.Outcomes.{Outcome, outcome}
use Rattle.rules.specs.Numbers.{Told, BuildTold, CheckTold, AnyTold}
use Rattle.finder_c.specs.declared.Located.{Located}
use Rattle.finder_c.specs.declared.Built.{Built}
use Rattle.finder_c.specs.declared.Checked.{Checked}
use Rattle.finder_c.specs.declared.Found.{Found}
use Rattle.finder_c.specs.declared.AnyFound.{AnyFound}
use Rattle.finder_c.specs.declared.Part.{Part}

abbrev pub located_told : Located → Told
located_told r = record { refusal = r.refusal; number = r.region }

abbrev pub built_told : Built → BuildTold
built_told r = record { refusal = r.refusal; nodes = r.nodes; entries = r.entries; bits = r.bits }

abbrev pub checked_told : Checked → CheckTold
checked_told r = record { lawful = r.lawful; nodes = r.nodes; entries = r.entries; bits = r.bits }

abbrev pub found_told : Found → Told
found_told r = record { refusal = r.refusal; number = r.count }

abbrev pub any_told : AnyFound → AnyTold
any_told r = record { refusal = r.refusal; yes = r.yes; stand = r.stand }

-- the set whose parts are lent one by one
abbrev pub set_in : (text starts : Lent (List ℕ)) (east north : Lent (List ℤ)) (score : Lent (List ℕ)) → Grid → (order nodes entries bits : Lent (List ℕ)) → Set
set_in text starts east north score g order nodes entries bits =
    record {
      table = record { text = text.entry; starts = starts.entry; east = east.entry; north = north.entry; score = score.entry };
      grid = g;
      index = record { order = order.entry; nodes = nodes.entry; entries = entries.entry; bits = bits.entry };
    }

-- what came of a question with one room, and with two
abbrev pub found_in : Found → LentMut (List ℕ) → Outcome
found_in r found = outcome (found_told r) (after found ∷ [])

abbrev pub founds_in : Found → LentMut (List ℕ) → LentMut (List ℕ) → Outcome
founds_in r found values = outcome (found_told r) (after found ∷ after values ∷ [])

abbrev pub ranking_of : Place → ℕ → ℕ → Ranking
ranking_of place weight k = record { place = place; weight = weight; k = k }

-- these are the numbers of an answer that keeps a promise
pub record Tells {Answer Numbers : Type 0} (numbers : Answer → Numbers) (Promise : Answer → Type 0) (told : Numbers) : Type 0 where
  pub answer : Answer
  pub promised : Promise answer
  pub same : told ≡ numbers answer

-- the rest of stand i's name after a typed text, as a part of the text
pub record RestPart (text starts : List ℕ) (i : ℕ) (typed : List ℕ) (r : Part) : Type 0 where
  pub begins : r.start ≡ rest_at text starts i typed
  pub long : r.length ≡ length (rest_of text starts i typed)
