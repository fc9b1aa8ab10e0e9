-- The invariant of the loop that takes digit after digit: what is still to be read decides. Assumes nothing.
use mathlib.Core.Path.{◌≡◌, refl, ◌∙◌}
use mathlib.Core.Bool.{Bool, true, false, cond}
use mathlib.Core.List.{List}
use Rattle.std.specs.Prelude.{Some, None}
use Prim.Native.Nat.{ℕ, ◌+◌, ◌≤◌, ◌<◌}
use native.Mathlib.Numerals.{add-one}
use native.Mathlib.Omega.{arith}
use lib.ListN.{length, get_or, drop, drop_of_length-le}
use lib.Seq.{drop-cons}
use Rattle.base.proofs.Tests.{refuted}
use Rattle.lines.specs.Reads.{grown, digit_fits, grown_by}
use Rattle.lines.proofs.Decimals.{Fits, fits, fitting}

pub record Growing (most : ℕ) (l : List ℕ) (value i : ℕ) : Type 0 where
  pub small : value ≤ most
  pub within : i ≤ length l
  pub rest : grown_by most 0 l ≡ grown_by most value (drop i l)

module _ (most : ℕ) (l : List ℕ) where
  pub grown_none : Growing most l 0 0
  grown_none = record { small = omega arith; within = omega arith; rest = refl }

  next : (value i : ℕ) (fits : Bool) → i < length l → digit_fits most value (get_or l i 0) ≡ fits → Growing most l value i
      → grown_by most 0 l ≡ cond fits (grown_by most (grown value (get_or l i 0)) (drop (i + 1) l)) None
  unfolding grown_by
  next value i fits h e s = s.rest ∙ rw (drop-cons l i 0 h, e, add-one)

  -- a byte that is no digit, or one too many, ends it
  pub broken : (value i : ℕ) → i < length l → (Fits most value (get_or l i 0) → ⊥) → Growing most l value i → grown_by most 0 l ≡ None
  broken value i h unfit s = next value i false h (refuted _ (λ e. unfit (fits most value (get_or l i 0) e))) s

  pub grown_one : (value i : ℕ) → i < length l → Fits most value (get_or l i 0) → Growing most l value i → Growing most l (grown value (get_or l i 0)) (i + 1)
  grown_one value i h f s =
      record { small = f.few; within = omega arith; rest = next value i true h (fitting most value (get_or l i 0) f) s }

  pub grown_all : (value i : ℕ) → length l ≤ i → Growing most l value i → grown_by most 0 l ≡ Some value
  unfolding grown_by
  grown_all value i h s = s.rest ∙ rw (drop_of_length-le l h)
