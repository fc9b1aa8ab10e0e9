-- What a question comes to once its list is known: what is told, and what its rooms hold afterwards.
-- Questions has the list that is meant; here it may be any.
use Rattle.std.specs.Prelude.{Bool, Result, cond, List, [], ◌∷◌, ℕ, zero, suc, leb, length, take}
use Rattle.base.specs.Lists.{all, each, written}
use Rattle.base.specs.Lent.{LentMut, given_mut, after}
use Rattle.rules.specs.declared.Hit.{Hit}
use Rattle.rules.specs.declared.Refusal.{Refusal}
use Rattle.rules.specs.declared.RangeRefusal.{RangeRefusal}
use Rattle.rules.specs.Numbers.{Told, telling, refusing, AnyTold, refusing_any, telling_yes, telling_no, range_numbers, told_numbers}

-- what a call told, and each of its rooms after it
pub record Outcome : Type 0 where
  pub told : Told
  pub rooms : List (List ℕ)

abbrev pub outcome : Told → List (List ℕ) → Outcome
outcome told rooms = record { told = told; rooms = rooms }

-- of a range with its one room, and of a ranked question with its rooms for stands and for values
abbrev pub range_came : Result ℕ RangeRefusal → List ℕ → Outcome
range_came a found = outcome (range_numbers a) (found ∷ [])

abbrev pub ranked_came : Result ℕ Refusal → List ℕ → List ℕ → Outcome
ranked_came a found values = outcome (told_numbers a) (found ∷ values ∷ [])

-- the rooms that a call is lent, and what came of the call
abbrev pub room_in : LentMut (List ℕ) → List (List ℕ)
room_in found = given_mut found ∷ []

abbrev pub rooms_in : LentMut (List ℕ) → LentMut (List ℕ) → List (List ℕ)
rooms_in found values = given_mut found ∷ given_mut values ∷ []

abbrev pub range_came_in : Result ℕ RangeRefusal → LentMut (List ℕ) → Outcome
range_came_in a found = range_came a (after found)

abbrev pub ranked_came_in : Result ℕ Refusal → LentMut (List ℕ) → LentMut (List ℕ) → Outcome
ranked_came_in a found values = ranked_came a (after found) (after values)

-- a refusal leaves every room as it was
abbrev pub refused : ℕ → List (List ℕ) → Outcome
refused n rooms = outcome (refusing n) rooms

-- an answer writes its words at the start of each room, and nothing behind them
abbrev pub filled : List (List ℕ) → List (List ℕ) → List (List ℕ)
filled [] rooms = rooms
filled (words ∷ more) [] = []
filled (words ∷ more) (room ∷ rooms) = written words room ∷ filled more rooms

abbrev pub room_for : ℕ → List (List ℕ) → Bool
room_for places rooms = all (λ room. leb places (length room)) rooms

-- the first refusal if there is one; then 13, as `short` tells it, if a room has fewer than the places wanted; else the answer
abbrev pub settled : (refusal places : ℕ) (short told : Told) (words rooms : List (List ℕ)) → Outcome
settled zero places short told words rooms = cond (room_for places rooms) (outcome told (filled words rooms)) (outcome short rooms)
settled (suc n) places short told words rooms = refused (suc n) rooms

-- a range wants a place for each match, and 13 tells how many there are
abbrev pub range_outcome : ℕ → List ℕ → List (List ℕ) → Outcome
range_outcome refusal list rooms =
    settled refusal (length list) (record { refusal = 13; number = length list }) (telling (length list)) (list ∷ []) rooms

-- whether a range has any stand: yes with the first, or no. It has no room, so what is told is all that comes of it
abbrev pub any_outcome : ℕ → List ℕ → AnyTold
any_outcome zero [] = telling_no
any_outcome zero (s ∷ list) = telling_yes s
any_outcome (suc n) list = refusing_any (suc n)

-- a ranked question wants k places, and writes the stands and values of the best k
abbrev pub stands_of : List Hit → List ℕ
stands_of hits = each (λ h. h.stand) hits

abbrev pub values_of : List Hit → List ℕ
values_of hits = each (λ h. h.value) hits

abbrev pub ranked_outcome : ℕ → ℕ → List Hit → List (List ℕ) → Outcome
ranked_outcome refusal k hits rooms =
    settled refusal k (refusing 13) (telling (length (take k hits))) (stands_of (take k hits) ∷ values_of (take k hits) ∷ []) rooms
