-- From the lines that were got, or not, to what reading a whole input promises.
-- Assumes nothing.
use mathlib.Core.Path.{◌≡◌, refl, sym, ap, ◌∙◌}
use mathlib.Core.List.{List, []}
use Prim.Native.Nat.{ℕ, ◌+◌, ◌-◌, ◌≤◌}
use native.Mathlib.Omega.{arith}
use lib.Dec.{leb}
use lib.ListN.{length, drop, length-append, length-drop, drop_of_length-le}
use lib.Seq.{drop-cons, length-take-le}
use borrow.Table.Steps.{cases}
use borrow.Author.Tests.{le-leb}
use Rattle.rules.specs.declared.Grid.{Grid}
use Rattle.rules.specs.declared.Ranking.{Ranking}
use Rattle.std.specs.Prelude.{Option, Some, None, Result, Ok, Err, ok_or}
use Rattle.std.specs.Result.{result_ok}
use Rattle.rules.specs.declared.Refusal.{Refusal}
use Rattle.rules.specs.declared.Refusal.TheVariants.{InputMalformed}
use Rattle.rules.specs.Tables.{Table}
use Rattle.desk_form.specs.Form.{Input}
use Rattle.desk_form.specs.Columns.{table_from, laid_table, text_at}
use Rattle.desk_form.specs.Answers.{reading_numbers, reading_of, ReadsInput}
use Rattle.lines.specs.Reads.{got, onward}
use Rattle.desk_form.specs.Reads.{grid_lines, all_stands, question_lines, input_of, all_lines, read_input}
use Rattle.lines.specs.Says.{part, Reached}
use Rattle.desk_form.specs.Says.{StandsReached, QuestionReached}
use Rattle.desk_form.specs.declared.Reading.{Reading}
use Rattle.lines.proofs.Lines.{lost, as_got}
use Rattle.desk_form.proofs.Inputs.{grid_law, stands_sound, input_back, input_sound}

-- a refusal that was put where nothing was got
pub torn_at : {A E : Type 0} (o : Option A) (e d : E) → Err e ≡ ok_or o d → (o ≡ None) × (e ≡ d)
torn_at None e d q = (refl, cc)
torn_at (Some a) e d q = let z : ◌≡◌ {A = ℕ} 0 1 = cc in absurd (omega arith)

-- what is left of an answer without its refusal
pub ok_given : {A E : Type 0} (r : Result A E) (a : A) → Some a ≡ result_ok r → r ≡ Ok a
ok_given (Ok b) a q = let s : a ≡ b = cc in ap Ok (sym s)
ok_given (Err e) a q = let z : ◌≡◌ {A = ℕ} 0 1 = cc in absurd (omega arith)

pub ok_missing : {A E : Type 0} (r : Result A E) → None ≡ result_ok r → (e : E) × (r ≡ Err e)
ok_missing (Ok a) q = let z : ◌≡◌ {A = ℕ} 0 1 = cc in absurd (omega arith)
ok_missing (Err e) q = (e, refl)

abbrev reading : ℕ → ℕ → Grid → ℕ → ℕ → Ranking → Result Reading Refusal
reading stands bytes grid from past ranking = Ok (record { stands = stands; bytes = bytes; grid = grid; from = from; past = past; ranking = ranking })

same_reading : {stands stands' bytes bytes' from from' past past' : ℕ} {grid : Grid} {ranking : Ranking} → stands ≡ stands' → bytes ≡ bytes' → from ≡ from'
    → past ≡ past' → reading_numbers (reading stands bytes grid from past ranking) ≡ reading_numbers (reading stands' bytes' grid from' past' ranking)
same_reading a b c d = rw (a, b, c, d)

module _ (l : List ℕ) (rooms after : Table) where
  refused : read_input l ≡ None → ReadsInput l rooms (Err InputMalformed) after
  refused e = record { of_form = λ r h t. lost (sym e ∙ ap read_input (sym t) ∙ input_back r h); other = λ no. refl }

  accepted : (answer : Result Reading Refusal) (r : Input) (rest : List ℕ) → read_input l ≡ got r rest → reading_numbers answer ≡ reading_of r
      → after ≡ laid_table (table_from r.stands) rooms → ReadsInput l rooms answer after
  accepted answer r rest e a b =
      let same = as_got (λ s m. (reading_numbers answer ≡ reading_of s) × (after ≡ laid_table (table_from s.stands) rooms)) in
      record {
        of_form = λ s h t. same r s rest [] (sym e ∙ ap read_input (sym t) ∙ input_back s h) (a, b);
        other = λ no. absurd (no r (input_sound l r rest e).0 (input_sound l r rest e).1);
      }

  lines_refused : all_lines l ≡ None → ReadsInput l rooms (Err InputMalformed) after
  unfolding read_input
  lines_refused e = refused (cases (leb (length l) 16384) (λ q. rw (q, e)) (λ q. rw q))

  pub no_opening : grid_lines l ≡ None → ReadsInput l rooms (Err InputMalformed) after
  unfolding all_lines onward
  no_opening e = lines_refused (rw e)

  module _ (grid : Grid) (n at₁ : ℕ) (opening : Reached l (grid_lines l) (grid, n) at₁) where
    pub no_stands : all_stands n (drop at₁ l) ≡ None → ReadsInput l rooms (Err InputMalformed) after
    unfolding all_lines onward
    no_stands e = lines_refused (rw (opening.is, e))

    module _ (bytes at₂ : ℕ) (laid : StandsReached l (all_stands n (drop at₁ l)) rooms after bytes at₂) where
      pub no_question : question_lines (drop at₂ l) ≡ None → ReadsInput l rooms (Err InputMalformed) after
      unfolding all_lines onward
      no_question e = lines_refused (rw (opening.is, laid.reached.is, e))

      module _ (from past : ℕ) (ranking : Ranking) (at₃ : ℕ) (asked : QuestionReached l at₂ (question_lines (drop at₂ l)) from past ranking at₃) where
        pub more_behind : (at₃ ≡ length l → ⊥) → ReadsInput l rooms (Err InputMalformed) after
        unfolding all_lines onward
        more_behind h = lines_refused (rw (opening.is, laid.reached.is, asked.reached.is, drop-cons l at₃ 0 (omega (arith, asked.reached.within, h))))

        counted : length laid.stands ≡ n
        counted = (stands_sound n (drop at₁ l) laid.stands (drop at₂ l) laid.reached.is).0.0

        begun : from ≡ text_at (input_of grid laid.stands (part from past l, ranking))
        unfolding text_at
        begun =
            let g = ap length (grid_law.sound l (grid, n) (drop at₁ l) opening.is).1 in
            let s = ap length (stands_sound n (drop at₁ l) laid.stands (drop at₂ l) laid.reached.is).1 in
            rw counted
            (simp length-append (omega (arith, simp (length-append, length-drop) at g, simp (length-append, length-drop) at s, opening.within, laid.reached.within, asked.begun)))

        ended_at : past ≡ from + length (part from past l)
        ended_at = omega (arith, length-take-le (past - from) (drop from l) (omega (arith, length-drop from l, asked.inside)), asked.forward)

        pub all_read : length l ≤ 16384 → at₃ ≡ length l → ReadsInput l rooms (reading n bytes grid from past ranking) after
        unfolding read_input all_lines onward
        all_read short h =
            accepted (reading n bytes grid from past ranking) (input_of grid laid.stands (part from past l, ranking)) []
            (rw (le-leb _ _ short, opening.is, laid.reached.is, asked.reached.is, drop_of_length-le l {i = at₃} (omega arith)))
            (same_reading (sym counted) laid.counted begun (ended_at ∙ ap (λ k. k + length (part from past l)) begun)) laid.laid
