-- One entry as the code reads it on any words; and that some entries stand in words, one after the other.
use Rattle.std.specs.Prelude.{◌≡◌, Bool, cond, ◌&&◌, List, [], ◌∷◌, ℕ, suc, ◌+◌, ◌*◌, ◌/◌, ltb, leb, length, get_or, Result, Ok, Err}
use Rattle.rules.specs.declared.Broken.{Broken}
use Rattle.rules.specs.Indexes as rules
use Rattle.walk.specs.declared.entry.Entry.{Entry}
use Rattle.walk.specs.Walks.{broken}

-- word k of an entry, counted from 0; 0 outside
abbrev pub entry_word : List ℕ → ℕ → ℕ → ℕ
entry_word words number k = get_or words (number * 4 + k) 0

abbrev pub entry_in : List ℕ → ℕ → Entry
entry_in words number =
    record {
      region = entry_word words number 0;
      score = entry_word words number 1;
      first = record { 0 = entry_word words number 2 };
      past = record { 0 = entry_word words number 3 };
    }

-- whether an entry is of a region, and its run within so many places
unfoldable pub entry_within : ℕ → Entry → Bool
entry_within places e = ltb e.region 64 && leb e.past.0 places

unfoldable pub entry_read : List ℕ → ℕ → ℕ → Result Entry Broken
entry_read words places number =
    cond (ltb number (length words / 4) && entry_within places (entry_in words number)) (Ok (entry_in words number)) (Err broken)

-- an entry of the rules as the code has it
abbrev pub as_read : rules.Entry → Entry
as_read e = record { region = e.region; score = e.score; first = record { 0 = e.first }; past = record { 0 = e.past } }

-- these entries stand in the words, from a number on
abbrev pub SpelledFrom : List ℕ → ℕ → ℕ → List Entry → Type 0
SpelledFrom words places number [] = Unit {0}
SpelledFrom words places number (e ∷ es) = (entry_read words places number ≡ Ok e) × SpelledFrom words places (suc number) es
