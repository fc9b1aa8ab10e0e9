-- What the code computes: readers of the input's groups of lines, and of the whole.
-- That they take exactly what Form writes is proved in proofs/Inputs.
use Rattle.std.specs.Prelude.{Some, None, cond, List, [], ◌∷◌, ℕ, zero, suc, leb, length}
use Rattle.rules.specs.declared.Grid.{Grid}
use Rattle.rules.specs.declared.Ranking.{Ranking}
use Rattle.lines.specs.Writing.{ascii}
use Rattle.lines.specs.Reads.{Reader, Got, got, ◌>>=◌, done, bytes_line, unsigned_line, signed_line}
use Rattle.desk_form.specs.Form.{StandLines, Input}

-- the grid, and how many stands follow
unfoldable pub grid_lines : Reader (Grid × ℕ)
grid_lines = do
  west ← signed_line (ascii "west=")
  south ← signed_line (ascii "south=")
  cell ← unsigned_line 65535 (ascii "cell=")
  stands ← unsigned_line 64 (ascii "stands=")
  done (record { west = west; south = south; cell = cell }, stands)

-- a stand's four lines, by the keys of the first and the last of them: the question begins with four like them, by other keys
unfoldable pub stand_by : List ℕ → List ℕ → Reader StandLines
stand_by first last = do
  name ← bytes_line first
  east ← signed_line (ascii "east=")
  north ← signed_line (ascii "north=")
  score ← unsigned_line 65535 last
  done (record { name = name; east = east; north = north; score = score })

abbrev pub stand_lines : Reader StandLines
stand_lines = stand_by (ascii "name=") (ascii "score=")

-- how many lines are as they should be, up to the first of the four that is not: so that one's number, from 0
unfoldable pub past : {A : Type 0} → Got A → (List ℕ → ℕ) → ℕ
past (Some (a, rest)) more = suc (more rest)
past None more = 0

unfoldable pub first_bad : List ℕ → List ℕ → List ℕ → ℕ
first_bad first last l₀ =
    past (bytes_line first l₀) (λ l₁. past (signed_line (ascii "east=") l₁) (λ l₂. past (signed_line (ascii "north=") l₂) (λ l₃. past (unsigned_line 65535 last l₃) (λ l₄. 0))))

unfoldable pub all_stands : ℕ → Reader (List StandLines)
all_stands zero = done []
all_stands (suc n) = do
  stand ← stand_lines
  more ← all_stands n
  done (stand ∷ more)

unfoldable pub question_lines : Reader (List ℕ × Ranking)
question_lines = do
  four ← stand_by (ascii "text=") (ascii "weight=")
  k ← unsigned_line 65535 (ascii "k=")
  done (four.name, record { place = record { east = four.east; north = four.north }; weight = four.score; k = k })

-- nothing behind the last line
abbrev pub ended : {A : Type 0} → A → Reader A
ended a [] = got a []
ended a (b ∷ l) = None

abbrev pub input_of : Grid → List StandLines → List ℕ × Ranking → Input
input_of grid stands question = record { grid = grid; stands = stands; text = question.0; ranking = question.1 }

unfoldable pub all_lines : Reader Input
all_lines = do
  head ← grid_lines
  stands ← all_stands head.1
  question ← question_lines
  ended (input_of head.0 stands question)

unfoldable pub read_input : Reader Input
read_input l = cond (leb (length l) 16384) (all_lines l) None
