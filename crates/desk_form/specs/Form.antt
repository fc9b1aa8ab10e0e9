-- The form of the desk program's input, defined by its writing: an input is of the form exactly if it is the text of a record
-- whose parts are in their ranges. What the finder itself refuses, as a name too long, is of the form.
use Rattle.std.specs.Prelude.{List, ◌++◌, ℕ, ◌≤◌, ℤ, length}
use Rattle.base.specs.Lists.{In, each_list}
use Rattle.rules.specs.declared.Grid.{Grid}
use Rattle.rules.specs.declared.Ranking.{Ranking}
use Rattle.lines.specs.Writing.{ascii, decimal_of, signed_of, line, Signed32, OneLine}

pub record StandLines : Type 0 where
  pub name : List ℕ
  pub east : ℤ
  pub north : ℤ
  pub score : ℕ

pub record Input : Type 0 where
  pub grid : Grid
  pub stands : List StandLines
  pub text : List ℕ
  pub ranking : Ranking

-- the lines in their order: the grid and how many stands there are, each stand, the question
unfoldable pub grid_text : Grid → ℕ → List ℕ
grid_text grid stands =
    line (ascii "west=") (signed_of grid.west)
    ++ line (ascii "south=") (signed_of grid.south)
    ++ line (ascii "cell=") (decimal_of grid.cell)
    ++ line (ascii "stands=") (decimal_of stands)

unfoldable pub stand_text : StandLines → List ℕ
stand_text s =
    line (ascii "name=") s.name
    ++ line (ascii "east=") (signed_of s.east)
    ++ line (ascii "north=") (signed_of s.north)
    ++ line (ascii "score=") (decimal_of s.score)

unfoldable pub question_text : List ℕ → Ranking → List ℕ
question_text text ranking =
    line (ascii "text=") text
    ++ line (ascii "east=") (signed_of ranking.place.east)
    ++ line (ascii "north=") (signed_of ranking.place.north)
    ++ line (ascii "weight=") (decimal_of ranking.weight)
    ++ line (ascii "k=") (decimal_of ranking.k)

unfoldable pub input_text : Input → List ℕ
input_text r = grid_text r.grid (length r.stands) ++ each_list stand_text r.stands ++ question_text r.text r.ranking

pub record StandInRanges (s : StandLines) : Type 0 where
  pub name : OneLine s.name
  pub east : Signed32 s.east
  pub north : Signed32 s.north
  pub score : s.score ≤ 65535

pub record GridInRanges (grid : Grid) : Type 0 where
  pub west : Signed32 grid.west
  pub south : Signed32 grid.south
  pub cell : grid.cell ≤ 65535

pub record RankingInRanges (ranking : Ranking) : Type 0 where
  pub east : Signed32 ranking.place.east
  pub north : Signed32 ranking.place.north
  pub weight : ranking.weight ≤ 65535
  pub k : ranking.k ≤ 65535

pub record InRanges (r : Input) : Type 0 where
  pub grid : GridInRanges r.grid
  pub few : length r.stands ≤ 64
  pub stands : (s : StandLines) → In s r.stands → StandInRanges s
  pub text : OneLine r.text
  pub ranking : RankingInRanges r.ranking
  pub short : length (input_text r) ≤ 16384
