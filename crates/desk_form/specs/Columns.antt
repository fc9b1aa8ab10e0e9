-- What an input is to the finder: its stands as the columns of a table, and where the question's text lies.
use Rattle.std.specs.Prelude.{List, [], ◌∷◌, ◌++◌, ℕ, ◌+◌, length, take, drop}
use Rattle.base.specs.Lists.{each, each_list}
use Rattle.rules.specs.Tables.{Table, table_of}
use Rattle.lines.specs.Writing.{ascii}
use Rattle.desk_form.specs.declared.Parts.{Parts}
use Rattle.desk_form.specs.Form.{StandLines, Input, grid_text, stand_text}

-- the names one after the other
abbrev pub joined_names : List StandLines → List ℕ
joined_names stands = each_list (λ s. s.name) stands

-- where each name begins, from `at` on, and where the last one ends
unfoldable pub starts_from : ℕ → List StandLines → List ℕ
starts_from at [] = at ∷ []
starts_from at (s ∷ stands) = at ∷ starts_from (at + length s.name) stands

unfoldable pub table_from : List StandLines → Table
table_from stands =
    record {
      text = joined_names stands;
      starts = starts_from 0 stands;
      east = each (λ s. s.east) stands;
      north = each (λ s. s.north) stands;
      score = each (λ s. s.score) stands;
    }

-- the table that the lent parts hold
abbrev pub parts_table : Parts → Table
parts_table p = table_of p.text p.starts p.east p.north p.score

-- the first so many stands of it, whose names have so many bytes
abbrev pub fronts : ℕ → ℕ → Table → Table
fronts bytes stands t = table_of (take bytes t.text) (take (stands + 1) t.starts) (take stands t.east) (take stands t.north) (take stands t.score)

-- a lent part after these were written at its start
abbrev pub laid_over : {A : Type 0} → List A → List A → List A
laid_over words room = words ++ drop (length words) room

unfoldable pub laid_table : Table → Table → Table
laid_table t rooms =
    record {
      text = laid_over t.text rooms.text;
      starts = laid_over t.starts rooms.starts;
      east = laid_over t.east rooms.east;
      north = laid_over t.north rooms.north;
      score = laid_over t.score rooms.score;
    }

-- where the question's text begins: past the other groups and its key
unfoldable pub text_at : Input → ℕ
text_at r = length (grid_text r.grid (length r.stands) ++ each_list stand_text r.stands ++ ascii "text=")
