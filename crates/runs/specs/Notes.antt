-- Which entry of a listing is of each region, on any words: entries are counted from the listing's first.
use Rattle.std.specs.Prelude.{Result, Ok, Err, Bool, true, false, cond, List, ℕ, zero, suc, ◌+◌, ◌/◌, ltb, length, set, replicate}
use Rattle.rules.specs.declared.Broken.{Broken}
use Rattle.walk.specs.Entries.{entry_word}

-- for each region its entry's number, and whether every entry is there and of a region
pub record Notes : Type 0 where
  pub numbers : List ℕ
  pub whole : Bool

abbrev pub notes_of : List ℕ → Bool → Notes
notes_of numbers whole = record { numbers = numbers; whole = whole }

-- by what the code answers
abbrev pub notes_by : Result Unit Broken → List ℕ → Notes
notes_by (Ok u) numbers = notes_of numbers true
notes_by (Err e) numbers = notes_of numbers false

-- count entries from number i on
unfoldable pub note_from : List ℕ → ℕ → ℕ → ℕ → List ℕ → Notes
note_from words first zero i numbers = notes_of numbers true
note_from words first (suc count) i numbers =
    cond (ltb (entry_word words (first + i) 0) 64) (note_from words first count (suc i) (set numbers (entry_word words (first + i) 0) i)) (notes_of numbers false)

unfoldable pub notes_in : List ℕ → ℕ → ℕ → List ℕ → Notes
notes_in words first count numbers = cond (ltb (length words / 4) (first + count)) (notes_of numbers false) (note_from words first count 0 numbers)

-- nothing noted
unfoldable pub blank : List ℕ
blank = replicate 64 0
