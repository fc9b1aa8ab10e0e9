-- The number of each refusal, and the numbers that each answer stands for.
-- A refusal's number is 0 where nothing is refused; with a refusal every other number is 0, but for a range's room.
use Rattle.std.specs.Prelude.{ℕ, zero, suc, Option, Some, None, Result, Ok, Err}
use Rattle.rules.specs.declared.Refusal.{Refusal}
use Rattle.rules.specs.declared.Refusal.TheVariants.{TableMisshapen, GridOutsideLimits, NameNotAllowed, NamesOutOfOrder, StandNotAllowed, BufferTooSmall, NotLawful, TextByteNotAllowed, TextTooLong, NothingToRubOut, RectReversed, QuestionOutsideLimits, RoomTooSmall, InputMalformed}
use Rattle.rules.specs.declared.RangeRefusal.{RangeRefusal}
use Rattle.rules.specs.declared.Sizes.{Sizes}
use Rattle.rules.specs.declared.Stand.{Stand}

abbrev pub refusal_number : Refusal → ℕ
refusal_number TableMisshapen = 1
refusal_number GridOutsideLimits = 2
refusal_number NameNotAllowed = 3
refusal_number NamesOutOfOrder = 4
refusal_number StandNotAllowed = 5
refusal_number BufferTooSmall = 6
refusal_number NotLawful = 7
refusal_number TextByteNotAllowed = 8
refusal_number TextTooLong = 9
refusal_number NothingToRubOut = 10
refusal_number RectReversed = 11
refusal_number QuestionOutsideLimits = 12
refusal_number RoomTooSmall = 13
refusal_number InputMalformed = 14

-- the first of two refusals that is given
abbrev pub first_given : ℕ → ℕ → ℕ
first_given zero b = b
first_given (suc a) b = suc a

-- a refusal and one number more: a region, or how many stands
pub record Told : Type 0 where
  pub refusal : ℕ
  pub number : ℕ

abbrev pub refusing : ℕ → Told
refusing n = record { refusal = n; number = 0 }

abbrev pub telling : ℕ → Told
telling n = record { refusal = 0; number = n }

-- how many nodes, entries and bit records
pub record BuildTold : Type 0 where
  pub refusal : ℕ
  pub nodes : ℕ
  pub entries : ℕ
  pub bits : ℕ

-- lawful: 1 is yes, 0 no
pub record CheckTold : Type 0 where
  pub lawful : ℕ
  pub nodes : ℕ
  pub entries : ℕ
  pub bits : ℕ

-- yes: 1 is yes, 0 no, and without a yes the stand is 0
pub record AnyTold : Type 0 where
  pub refusal : ℕ
  pub yes : ℕ
  pub stand : ℕ

abbrev pub refusing_any : ℕ → AnyTold
refusing_any n = record { refusal = n; yes = 0; stand = 0 }

abbrev pub telling_yes : ℕ → AnyTold
telling_yes stand = record { refusal = 0; yes = 1; stand = stand }

abbrev pub telling_no : AnyTold
telling_no = record { refusal = 0; yes = 0; stand = 0 }

-- a range's refusal that tells of no matches
abbrev pub range_refused : Refusal → RangeRefusal
range_refused r = record { why = r; matches = 0 }

-- what each call's result stands for
abbrev pub verdict_number : Result Unit Refusal → ℕ
verdict_number (Ok u) = 0
verdict_number (Err r) = refusal_number r

-- of a place its region, and of a ranked question how many stands it found
abbrev pub told_numbers : Result ℕ Refusal → Told
told_numbers (Ok n) = telling n
told_numbers (Err r) = refusing (refusal_number r)

abbrev pub built_numbers : Result Sizes Refusal → BuildTold
built_numbers (Ok s) = record { refusal = 0; nodes = s.nodes; entries = s.entries; bits = s.bits }
built_numbers (Err r) = record { refusal = refusal_number r; nodes = 0; entries = 0; bits = 0 }

abbrev pub checked_numbers : Option Sizes → CheckTold
checked_numbers (Some s) = record { lawful = 1; nodes = s.nodes; entries = s.entries; bits = s.bits }
checked_numbers None = record { lawful = 0; nodes = 0; entries = 0; bits = 0 }

abbrev pub range_numbers : Result ℕ RangeRefusal → Told
range_numbers (Ok n) = telling n
range_numbers (Err r) = record { refusal = refusal_number r.why; number = r.matches }

abbrev pub any_numbers : Result (Option Stand) Refusal → AnyTold
any_numbers (Ok (Some s)) = telling_yes s.0
any_numbers (Ok None) = telling_no
any_numbers (Err r) = refusing_any (refusal_number r)
