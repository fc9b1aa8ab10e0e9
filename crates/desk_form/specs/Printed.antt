-- What the desk program prints: lines like those that it reads. A refusal is one line; an answer is the number of hits, and each
-- hit's stand number, name and value.
use Rattle.std.specs.Prelude.{◌≡◌, cond, List, ◌++◌, ℕ, eqb, length}
use Rattle.base.specs.Lists.{each_list}
use Rattle.rules.specs.declared.Grid.{Grid}
use Rattle.rules.specs.declared.Ranking.{Ranking}
use Rattle.rules.specs.declared.Hit.{Hit}
use Rattle.rules.specs.Numbers.{first_given}
use Rattle.rules.specs.Names.{folded_text}
use Rattle.rules.specs.Tables.{Table, name_of, table_refusal}
use Rattle.rules.specs.Questions.{ranked_list, ranked_refusal}
use Rattle.lines.specs.Writing.{ascii, decimal_of, line}
use Rattle.desk_form.specs.Form.{Input, input_text, InRanges}
use Rattle.desk_form.specs.Columns.{table_from}

unfoldable pub printed_refusal : ℕ → List ℕ
printed_refusal n = line (ascii "refused=") (decimal_of n)

unfoldable pub printed_hit : Table → Hit → List ℕ
printed_hit t h = line (ascii "object=") (decimal_of h.stand) ++ line (ascii "name=") (name_of t h.stand) ++ line (ascii "value=") (decimal_of h.value)

unfoldable pub printed_hits : Table → List Hit → List ℕ
printed_hits t hits = line (ascii "found=") (decimal_of (length hits)) ++ each_list (printed_hit t) hits

-- what building refuses, then what the question does, or the best k of the stands
unfoldable pub reply_to : Table → Grid → List ℕ → Ranking → List ℕ
reply_to t g p q =
    let refusal : ℕ = first_given (table_refusal t g) (ranked_refusal g p q) in
    cond (eqb refusal 0) (printed_hits t (ranked_list t g p q)) (printed_refusal refusal)

-- for an input of the form, its text read as any typed text is
unfoldable pub output_of : Input → List ℕ
output_of r = reply_to (table_from r.stands) r.grid (folded_text r.text) r.ranking

-- for any input: 14 comes before all others
pub record Prints (input output : List ℕ) : Type 0 where
  pub of_form : (r : Input) → InRanges r → input_text r ≡ input → output ≡ output_of r
  pub other : ((r : Input) → InRanges r → input_text r ≡ input → ⊥) → output ≡ printed_refusal 14
