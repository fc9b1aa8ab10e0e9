-- What an answer of the code says of what its reader got: the same values, and the place where the bytes behind them begin.
use Rattle.std.specs.Prelude.{◌≡◌, Option, Some, None, Result, Ok, Err, List, ℕ, ◌+◌, ◌≤◌, ◌<◌, ℤ, length, drop}
use Rattle.rules.specs.declared.Ranking.{Ranking}
use Rattle.lines.specs.Writing.{ascii}
use Rattle.desk_form.specs.Form.{StandLines}
use Rattle.rules.specs.Tables.{Table}
use Rattle.desk_form.specs.Columns.{joined_names, table_from, laid_table}
use Rattle.lines.specs.Reads.{Got}
use Rattle.desk_form.specs.Reads.{stand_by, first_bad, all_stands, question_lines}
use Rattle.desk_form.specs.declared.group.StandRead.{StandRead}
use Rattle.desk_form.specs.declared.group.TornLine.{TornLine}
use Rattle.desk_form.specs.declared.group.Question.{Question}
use Rattle.lines.specs.Says.{part, Reached}

-- a stand's lines were got, with the name at the part of the input that begins past its key
pub record StandReached (input : List ℕ) (keyed : ℕ) (f : Got StandLines) (from past : ℕ) (east north : ℤ) (score next : ℕ) : Type 0 where
  pub begun : from ≡ keyed
  pub forward : from ≤ past
  pub inside : past ≤ length input
  pub reached : Reached input f (record { name = part from past input; east = east; north = north; score = score }) next

-- they were not, and this is the first that is not as it should be
pub record StandTorn (first last l : List ℕ) (line : ℕ) : Type 0 where
  pub none : stand_by first last l ≡ None
  pub bad : line ≡ first_bad first last l
  pub of_four : line < 4

abbrev pub SaysStand : List ℕ → ℕ → List ℕ → List ℕ → Result (StandRead × ℕ) TornLine → Type 0
SaysStand input at first last (Ok (s, next)) =
    StandReached input (at + length first) (stand_by first last (drop at input)) s.name.from s.name.past s.east s.north s.score next
SaysStand input at first last (Err torn) = StandTorn first last (drop at input) torn.0

-- the question's lines were got, with the text at the part of the input that begins past its key
pub record QuestionReached (input : List ℕ) (at : ℕ) (f : Got (List ℕ × Ranking)) (from past : ℕ) (ranking : Ranking) (next : ℕ) : Type 0 where
  pub begun : from ≡ at + length (ascii "text=")
  pub forward : from ≤ past
  pub inside : past ≤ length input
  pub reached : Reached input f (part from past input, ranking) next

abbrev pub SaysQuestion : List ℕ → ℕ → Option (Question × ℕ) → Type 0
SaysQuestion input at (Some (q, next)) = QuestionReached input at (question_lines (drop at input)) q.text.from q.text.past q.ranking next
SaysQuestion input at None = question_lines (drop at input) ≡ None

-- the parts of a table have room for so many stands, and for as many bytes of names as there are bytes
pub record RoomFor (input : List ℕ) (at stands : ℕ) : Type 0 where
  pub within : at ≤ length input
  pub short : length input ≤ 16384
  pub few : stands ≤ 64

-- the stands' lines were got, and the lent parts begin with their table
pub record StandsReached (input : List ℕ) (f : Got (List StandLines)) (rooms after : Table) (bytes next : ℕ) : Type 0 where
  pub stands : List StandLines
  pub reached : Reached input f stands next
  pub counted : bytes ≡ length (joined_names stands)
  pub laid : after ≡ laid_table (table_from stands) rooms

abbrev pub SaysStands : List ℕ → ℕ → ℕ → Table → Table → Option (ℕ × ℕ) → Type 0
SaysStands input at n rooms after (Some (bytes, next)) = StandsReached input (all_stands n (drop at input)) rooms after bytes next
SaysStands input at n rooms after None = all_stands n (drop at input) ≡ None
