-- The loop that notes the entries' numbers, turn by turn; and that no number which is noted is of a 65th entry. Assumes nothing.
use mathlib.Core.Path.{◌≡◌, ◌∙◌}
use mathlib.Core.Logic.{⊎_elim}
use mathlib.Core.List.{List}
use Prim.Native.Nat.{ℕ, zero, suc, ◌+◌, ◌-◌, ◌/◌, ◌≤◌, ◌<◌}
use native.Mathlib.Omega.{arith}
use native.Mathlib.Numerals.{add-one}
use lib.Dec.{ltb}
use lib.ListN.{length, get_or, set}
use borrow.Table.Steps.{cases}
use borrow.Author.Tests.{lt-ltb}
use Rattle.base.proofs.Members.{set_either, replicate_at}
use Rattle.walk.specs.Entries.{entry_word}
use Rattle.runs.specs.Notes.{note_from, notes_in, blank}

-- ---- at entry i, which is left entries short of the last

pub record Noting (words : List ℕ) (first count : ℕ) (numbers₀ numbers : List ℕ) (i : ℕ) : Type 0 where
  pub there : first + count ≤ length words / 4
  pub few : count ≤ 64
  pub within : i ≤ count
  pub same : notes_in words first count numbers₀ ≡ note_from words first (count - i) i numbers

module _ (words : List ℕ) (first count : ℕ) (numbers₀ numbers : List ℕ) (i : ℕ) (w : Noting words first count numbers₀ numbers i) where
  pub note_more : i < count → entry_word words (first + i) 0 < 64 → Noting words first count numbers₀ (set numbers (entry_word words (first + i) 0) i) (i + 1)
  unfolding note_from
  note_more l h =
      let z : count - i ≡ suc (count - (i + 1)) = omega arith in
      record { there = w.there; few = w.few; within = omega arith; same = w.same ∙ rw (z, lt-ltb (entry_word words (first + i) 0) 64 h, add-one i) }

-- ---- what is noted

module _ (words : List ℕ) (first : ℕ) where
  numbers_small : (count i : ℕ) (numbers : List ℕ) → count + i ≤ 64 → ((r : ℕ) → get_or numbers r 0 < 64) → (r : ℕ) → get_or (note_from words first count i numbers).numbers r 0 < 64
  unfolding note_from
  numbers_small zero i numbers h k r = k r
  numbers_small (suc count) i numbers h k r =
      let region = entry_word words (first + i) 0 in
      cases (ltb region 64)
      (λ q. rw q (numbers_small count (suc i) (set numbers region i) (omega arith) (λ j. ⊎_elim (λ u. rw u (omega arith)) (λ u. rw u (k j)) (set_either numbers region j i 0)) r))
      (λ q. rw q (k r))

pub notes_small : (words : List ℕ) (first count : ℕ) → count ≤ 64 → (r : ℕ) → get_or (notes_in words first count blank).numbers r 0 < 64
unfolding notes_in blank
notes_small words first count h r =
    let none : (j : ℕ) → get_or blank j 0 < 64 = λ j. omega (arith, replicate_at {A = ℕ} 64 j 0) in
    cases (ltb (length words / 4) (first + count)) (λ q. rw q (none r)) (λ q. rw q (numbers_small words first count 0 blank (omega arith) none r))
