-- The small scheme at the desk: the lines that ask for "ki" at (5, 5), and what is printed.
-- SchemeAtDesk is one statement about the definitions; its proof is a computation.
use Rattle.std.specs.Prelude.{◌≡◌, List, [], ◌∷◌, ℕ, pos}
use Prim.Native.String.{String}
use Rattle.rules.specs.Scheme.{grid, table, ki, Ki, asked}
use Rattle.lines.specs.Writing.{ascii}
use Rattle.desk_form.specs.Form.{StandLines, Input, input_text}
use Rattle.desk_form.specs.Columns.{table_from}
use Rattle.desk_form.specs.Printed.{output_of}

abbrev pub stand : String → ℕ → ℕ → ℕ → StandLines
stand name east north score = record { name = ascii name; east = pos east; north = pos north; score = score }

abbrev pub five_stands : List StandLines
five_stands = stand "kibo" 5 5 100 ∷ stand "kibo" 75 75 900 ∷ stand "kibori" 12 5 400 ∷ stand "kito" 9 9 400 ∷ stand "mto" 10 9 0 ∷ []

abbrev pub input : List ℕ → ℕ → ℕ → Input
input text weight k = record { grid = grid; stands = five_stands; text = text; ranking = asked weight k }

pub record SchemeAtDesk : Type 0 where
  pub columns : table_from five_stands ≡ table
  pub lines : input_text (input ki 8 2) ≡ ascii "west=0\nsouth=0\ncell=10\nstands=5\nname=kibo\neast=5\nnorth=5\nscore=100\nname=kibo\neast=75\nnorth=75\nscore=900\nname=kibori\neast=12\nnorth=5\nscore=400\nname=kito\neast=9\nnorth=9\nscore=400\nname=mto\neast=10\nnorth=9\nscore=0\ntext=ki\neast=5\nnorth=5\nweight=8\nk=2\n"
  pub printed : output_of (input ki 8 2) ≡ ascii "found=2\nobject=3\nname=kito\nvalue=1225600\nobject=2\nname=kibori\nvalue=1209600\n"
  pub refused : output_of (input ki 17 2) ≡ ascii "refused=12\n"
  pub capitals : output_of (input Ki 8 2) ≡ output_of (input ki 8 2)
