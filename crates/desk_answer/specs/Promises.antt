-- What the desk program's answer promises: its bytes, at the start of the lent room, are what is printed for the input, and past them
-- the room is as it was. And what making an index in the program's rooms promises.
use Rattle.std.specs.Prelude.{◌≡◌, true, Result, Ok, Err, List, ℕ, length, take, drop}
use Rattle.io.specs.Counts.{IsPrefixLen}
use Rattle.rules.specs.declared.Grid.{Grid}
use Rattle.rules.specs.declared.Ranking.{Ranking}
use Rattle.rules.specs.declared.Refusal.{Refusal}
use Rattle.rules.specs.Numbers.{refusal_number, first_given, verdict_number}
use Rattle.rules.specs.Tables.{Table, table_refusal}
use Rattle.rules.specs.Questions.{ranked_list, ranked_refusal}
use Rattle.rules.specs.Indexes.{Index, index_of, set_lawful}
use Rattle.rules.specs.Outcomes.{stands_of, values_of}
use Rattle.desk_answer.specs.declared.Rooms.{Rooms}
use Rattle.desk_form.specs.Printed.{Prints}

pub record AnswersInput (input out after : List ℕ) (r : ℕ) : Type 0 where
  pub counts : IsPrefixLen r after
  pub prints : Prints input (take r after)
  pub rest : drop r after ≡ drop r out

-- the index that the program's rooms hold
abbrev pub rooms_index : Rooms → Index
rooms_index r = index_of r.order r.nodes r.entries r.bits

-- what is refused is the table, and else the set is lawful
pub record MakesIndex (t : Table) (g : Grid) (r : Result Unit Refusal) (after : Index) : Type 0 where
  pub refusal : verdict_number r ≡ table_refusal t g
  pub lawful : verdict_number r ≡ 0 → set_lawful t g after ≡ true

-- nothing is refused, and the hits stand at the start of two rooms
pub record BestFound (t : Table) (g : Grid) (p : List ℕ) (q : Ranking) (n : ℕ) (found values : List ℕ) : Type 0 where
  pub fine : first_given (table_refusal t g) (ranked_refusal g p q) ≡ 0
  pub count : n ≡ length (ranked_list t g p q)
  pub stands : take n found ≡ stands_of (ranked_list t g p q)
  pub worths : take n values ≡ values_of (ranked_list t g p q)

-- what building refuses, then what the question does, or the best stands
abbrev pub FindsBest : Table → Grid → List ℕ → Ranking → Result ℕ Refusal → List ℕ → List ℕ → Type 0
FindsBest t g p q (Ok n) found values = BestFound t g p q n found values
FindsBest t g p q (Err why) found values = refusal_number why ≡ first_given (table_refusal t g) (ranked_refusal g p q)
