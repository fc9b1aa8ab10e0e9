-- What reading an input answers, by its numbers, and what the lent parts of a table hold after it.
use Rattle.std.specs.Prelude.{◌≡◌, Result, Ok, Err, List, ℕ, ◌+◌, pos, length}
use Rattle.rules.specs.declared.Grid.{Grid}
use Rattle.rules.specs.declared.Ranking.{Ranking}
use Rattle.rules.specs.declared.Refusal.{Refusal}
use Rattle.rules.specs.Numbers.{refusal_number}
use Rattle.rules.specs.Tables.{Table}
use Rattle.desk_form.specs.Form.{Input, input_text, InRanges}
use Rattle.desk_form.specs.Columns.{joined_names, table_from, laid_table, text_at}
use Rattle.desk_form.specs.declared.Reading.{Reading}

-- a reading's numbers: its refusal's, or 0 and what it holds. With a refusal all others are 0
pub record ReadingTold : Type 0 where
  pub refusal : ℕ
  pub stands : ℕ
  pub bytes : ℕ
  pub grid : Grid
  pub from : ℕ
  pub past : ℕ
  pub ranking : Ranking

abbrev pub reading_refused : ℕ → ReadingTold
reading_refused n =
    record {
      refusal = n;
      stands = 0;
      bytes = 0;
      grid = record { west = pos 0; south = pos 0; cell = 0 };
      from = 0;
      past = 0;
      ranking = record { place = record { east = pos 0; north = pos 0 }; weight = 0; k = 0 };
    }

abbrev pub reading_numbers : Result Reading Refusal → ReadingTold
reading_numbers (Ok r) =
    record { refusal = 0; stands = r.stands; bytes = r.bytes; grid = r.grid; from = r.from; past = r.past; ranking = r.ranking }
reading_numbers (Err why) = reading_refused (refusal_number why)

abbrev pub reading_of : Input → ReadingTold
reading_of r =
    record {
      refusal = 0;
      stands = length r.stands;
      bytes = length (joined_names r.stands);
      grid = r.grid;
      from = text_at r;
      past = text_at r + length r.text;
      ranking = r.ranking;
    }

-- an input of the form is read as its record, and its stands are laid over the lent parts; any other is refused 14
pub record ReadsInput (input : List ℕ) (rooms : Table) (answer : Result Reading Refusal) (after : Table) : Type 0 where
  pub of_form : (r : Input) → InRanges r → input_text r ≡ input → (reading_numbers answer ≡ reading_of r) × (after ≡ laid_table (table_from r.stands) rooms)
  pub other : ((r : Input) → InRanges r → input_text r ≡ input → ⊥) → reading_numbers answer ≡ reading_refused 14
