-- For the reader: an input has one output, whatever its bytes. No two satisfy the promise. And capitals in its text are small letters.
-- Assumes nothing.
use mathlib.Core.Path.{◌≡◌, sym, ap, ◌∙◌, ap₂}
use mathlib.Core.List.{List, ◌++◌}
use Prim.Native.Nat.{ℕ}
use lib.ListN.{take, drop, length, take-append-drop}
use Rattle.rules.specs.Names.{folded_text}
use Rattle.rules.proofs.Folds.{text_twice}
use Rattle.desk_form.specs.Form.{Input}
use Rattle.desk_form.specs.Columns.{table_from}
use Rattle.desk_form.specs.Printed.{reply_to, output_of, Prints}
use Rattle.desk_answer.specs.Promises.{AnswersInput}
use Rattle.desk_answer.proofs.Readings.{of_form_or_not}

pub one_output : (input a b : List ℕ) → Prints input a → Prints input b → a ≡ b
one_output input a b p q =
    of_form_or_not input (λ r h t. p.of_form r h t ∙ sym (q.of_form r h t)) (λ none. p.other none ∙ sym (q.other none))

-- so how many bytes are printed is settled, and with them the whole room
pub one_answer : (input out after after' : List ℕ) (r r' : ℕ) → AnswersInput input out after r → AnswersInput input out after' r' → (r ≡ r') × (after ≡ after')
one_answer input out after after' r r' a b =
    let e = one_output input (take r after) (take r' after') a.prints b.prints in
    let n : r ≡ r' = a.counts.1 ∙ ap length e ∙ sym b.counts.1 in
    (n, sym (take-append-drop r after) ∙ ap₂ ◌++◌ e (a.rest ∙ ap (λ m. drop m out) n ∙ sym b.rest) ∙ take-append-drop r' after')

-- the output is that of the input with its text folded
pub same_output : (r : Input) → output_of (record { grid = r.grid; stands = r.stands; text = folded_text r.text; ranking = r.ranking }) ≡ output_of r
unfolding output_of
same_output r = ap (λ (p : List ℕ). reply_to (table_from r.stands) r.grid p r.ranking) (text_twice r.text)
