-- For the reader: a place's region has one outcome.
-- Assumes nothing.
use Rattle.std.proofs.Common.{◌≡◌, sym, ◌∙◌, ℕ}
use Rattle.rules.specs.declared.Grid.{Grid}
use Rattle.rules.specs.declared.Place.{Place}
use Rattle.rules.specs.declared.Refusal.{Refusal}
use Rattle.std.specs.Prelude.{Result}
use Rattle.rules.specs.Numbers.{told_numbers}
use Rattle.rules.specs.Places.{region_told}
use Rattle.rules.proofs.Numbers.{one_told}

pub one_locating : (g : Grid) (p : Place) (l m : Result ℕ Refusal) → told_numbers l ≡ region_told g p → told_numbers m ≡ region_told g p → l ≡ m
one_locating g p l m e f = one_told l m (e ∙ sym f)
