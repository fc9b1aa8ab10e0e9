-- A room after words are written at its start: its length, what lies past them, and one word more.
-- Assumes nothing.
use mathlib.Core.Path.{◌≡◌}
use mathlib.Core.List.{List, [], ◌∷◌, ◌++◌, append_assoc}
use Prim.Native.Nat.{ℕ, ◌≤◌, ◌<◌}
use native.Mathlib.Omega.{arith}
use native.Mathlib.Numerals.{add-one}
use lib.ListN.{length, drop, set, length-append, length-drop}
use lib.Seq.{drop-cons, set-append_seam}
use Rattle.base.specs.Lists.{written}

module _ (words room : List ℕ) where
  pub length-written : length words ≤ length room → length (written words room) ≡ length room
  length-written h = omega (arith, length-append words (drop (length words) room), length-drop (length words) room)

  pub written_next : (x : ℕ) → length words < length room → set (written words room) (length words) x ≡ written (words ++ (x ∷ [])) room
  written_next x h = rw (drop-cons room (length words) 0 h, set-append_seam, length-append words (x ∷ []), add-one (length words), append_assoc)
