-- Signed metres as the code compares them: each test says the same of the lifted numbers.
-- Assumes nothing.
use Rattle.std.proofs.Common.{◌≡◌, Bool, not, leb, ℤ, sym, ap, ◌∙◌, to_z-of_z, w32, SFits, to_z, of_z}
use lib.Signed.{lt_z, le_z}
use Rattle.rules.specs.Places.{lifted}
use Rattle.grid.proofs.Signed.{turned}
use Rattle.grid.proofs.Floors.{lifted_order}

module _ (a b : ℤ) (fa : SFits w32 a) (fb : SFits w32 b) where
  pub not_above : le_z (to_z w32 (of_z w32 a)) (to_z w32 (of_z w32 b)) ≡ leb (lifted a) (lifted b)
  not_above = rw (to_z-of_z fa, to_z-of_z fb) (lifted_order a b fa fb)

  -- whether a is above b, by a test that may fail
  pub compared : {t : Bool} → lt_z (to_z w32 (of_z w32 b)) (to_z w32 (of_z w32 a)) ≡ t → leb (lifted a) (lifted b) ≡ not t
  compared e = sym (lifted_order a b fa fb) ∙ turned b a ∙ ap not (rw (to_z-of_z fa, to_z-of_z fb) at e)
