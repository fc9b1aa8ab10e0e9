-- From what reading an input promises to what is printed: the parts that are handed to the finder are those of the input's record.
-- Assumes nothing.
use mathlib.Core.Path.{◌≡◌, refl, sym, ap, ◌∙◌}
use mathlib.Core.List.{List, ◌++◌, append_assoc}
use Prim.Native.Nat.{ℕ, ◌+◌, ◌-◌, ◌≤◌}
use native.Mathlib.Omega.{arith}
use lib.ListN.{length, take, drop, length-append, length-take}
use lib.Seq.{take-append_seam, drop-append_seam}
use Rattle.base.specs.Lists.{each, each_list}
use Rattle.base.proofs.Members.{length-each}
use Rattle.std.specs.Prelude.{Some, None, Ok}
use Rattle.rules.specs.Names.{folded_text}
use Rattle.rules.specs.Tables.{Table}
use Rattle.lines.specs.Writing.{ascii, signed_of, decimal_of, line}
use Rattle.lines.specs.Puts.{Puts}
use Rattle.lines.specs.Says.{part}
use Rattle.lines.specs.Reads.{Got}
use Rattle.lines.proofs.Lines.{lost}
use Rattle.desk_form.specs.Form.{StandLines, Input, grid_text, stand_text, question_text, input_text, InRanges}
use Rattle.desk_form.specs.Columns.{joined_names, starts_from, table_from, fronts, laid_over, laid_table, text_at}
use Rattle.desk_form.specs.Answers.{ReadingTold, reading_numbers, reading_of, ReadsInput}
use Rattle.desk_form.specs.Reads.{read_input}
use Rattle.desk_form.specs.Printed.{reply_to, output_of, Prints}
use Rattle.desk_form.specs.declared.Reading.{Reading}
use Rattle.desk_form.proofs.Inputs.{input_back, input_sound}
use Rattle.desk_form.proofs.Layouts.{length_starts, same_table}
use Rattle.desk_answer.specs.Promises.{AnswersInput}

-- any input is of the form, or is not
pub of_form_or_not : {X : Type 0} (input : List ℕ) → ((r : Input) → InRanges r → input_text r ≡ input → X)
    → (((r : Input) → InRanges r → input_text r ≡ input → ⊥) → X) → X
of_form_or_not {X} input form other = step (read_input input) refl
  where
    step : (f : Got Input) → read_input input ≡ f → X
    step (Some (r, rest)) e = let s = input_sound input r rest e in form r s.0 s.1
    step None e = other (λ r h t. lost (sym e ∙ ap read_input (sym t) ∙ input_back r h))

-- the first n of a list are these
pub record Front {A : Type 0} (n : ℕ) (l w : List A) : Type 0 where
  pub within : n ≤ length l
  pub is : take n l ≡ w

front : {A : Type 0} (n : ℕ) (w room : List A) → n ≡ length w → Front n (laid_over w room) w
front n w room e =
    record { within = omega (arith, length-append w (drop (length w) room)); is = rw e (take-append_seam w (drop (length w) room)) }

-- what is handed to the finder: the fronts of the columns, and a part of the input
pub record Handed (input : List ℕ) (after : Table) (a : Reading) (t : Table) (p : List ℕ) : Type 0 where
  pub few : a.stands ≤ 64
  pub text : Front a.bytes after.text t.text
  pub starts : Front (a.stands + 1) after.starts t.starts
  pub east : Front a.stands after.east t.east
  pub north : Front a.stands after.north t.north
  pub score : Front a.stands after.score t.score
  pub forward : a.from ≤ a.past
  pub inside : a.past ≤ length input
  pub typed : part a.from a.past input ≡ p

-- an input, cut at its question's text
abbrev before_text : Input → List ℕ
before_text r = grid_text r.grid (length r.stands) ++ each_list stand_text r.stands ++ ascii "text="

text_between : (r : Input) → (rest : List ℕ) × (input_text r ≡ before_text r ++ (r.text ++ rest))
unfolding input_text question_text line
text_between r =
    let place = line (ascii "east=") (signed_of r.ranking.place.east) ++ line (ascii "north=") (signed_of r.ranking.place.north) in
    (ascii "\n" ++ place ++ line (ascii "weight=") (decimal_of r.ranking.weight) ++ line (ascii "k=") (decimal_of r.ranking.k), simp append_assoc)

cut : (a b c input : List ℕ) (from past : ℕ) → input ≡ a ++ (b ++ c) → from ≡ length a → past ≡ length a + length b → (past ≤ length input) × (part from past input ≡ b)
cut a b c input from past e f h =
    let k : past - from ≡ length b = omega arith in
    (omega (arith, ap length e, length-append a (b ++ c), length-append b c), rw (k, e, f, drop-append_seam a (b ++ c)) (take-append_seam b c))

module _ (input : List ℕ) (rooms after : Table) (a : Reading) where
  handed : (r : Input) → InRanges r → input_text r ≡ input → reading_numbers (Ok a) ≡ reading_of r → after ≡ laid_table (table_from r.stands) rooms
      → Handed input after a (table_from r.stands) r.text
  unfolding table_from laid_table text_at
  handed r ranges e s l =
      let n : a.stands ≡ length r.stands = ap (λ (a : ReadingTold). a.stands) s in
      let b : a.bytes ≡ length (joined_names r.stands) = ap (λ (a : ReadingTold). a.bytes) s in
      let f : a.from ≡ text_at r = ap (λ (a : ReadingTold). a.from) s in
      let h : a.past ≡ text_at r + length r.text = ap (λ (a : ReadingTold). a.past) s in
      let m = text_between r in
      let question = cut (before_text r) r.text m.0 input a.from a.past (sym e ∙ m.1) f h in
      record {
        few = omega (arith, ranges.few);
        text = rw l (front a.bytes (joined_names r.stands) rooms.text b);
        starts = rw l (front (a.stands + 1) (starts_from 0 r.stands) rooms.starts (omega (arith, length_starts 0 r.stands)));
        east = rw l (front a.stands (each (λ s. s.east) r.stands) rooms.east (omega (arith, length-each (λ (s : StandLines). s.east) r.stands)));
        north = rw l (front a.stands (each (λ s. s.north) r.stands) rooms.north (omega (arith, length-each (λ (s : StandLines). s.north) r.stands)));
        score = rw l (front a.stands (each (λ s. s.score) r.stands) rooms.score (omega (arith, length-each (λ (s : StandLines). s.score) r.stands)));
        forward = omega arith;
        inside = question.0;
        typed = question.1;
      }

  -- an input that was read has a record
  pub handed_read : ReadsInput input rooms (Ok a) after → (r : Input) × Handed input after a (table_from r.stands) r.text
  handed_read reads =
      of_form_or_not input
      (λ r h t. let s = reads.of_form r h t in (r, handed r h t s.0 s.1))
      (λ none. let z : ◌≡◌ {A = ℕ} 0 14 = ap (λ (a : ReadingTold). a.refusal) (reads.other none) in absurd (omega arith))

module _ (input : List ℕ) (rooms after : Table) {bytes out out' : List ℕ} {r : ℕ} (p : Puts bytes out 0 out' r) where
  answers : Prints input bytes → AnswersInput input out out' r
  answers prints =
      let long : length (take r out') ≡ length bytes = ap length p.front in
      let e : r ≡ length (take r out') = omega (arith, p.next) in
      record { counts = (omega (arith, length-take r out'), e); prints = rw p.front prints; rest = p.rest }

  pub replied : (a : Reading) → ReadsInput input rooms (Ok a) after
      → bytes ≡ reply_to (fronts a.bytes a.stands after) a.grid (folded_text (part a.from a.past input)) a.ranking → AnswersInput input out out' r
  unfolding output_of
  replied a reads is =
      answers
      (record {
        of_form =
            λ s h t.
            let e = reads.of_form s h t in
            let q = handed input rooms after a s h t e.0 e.1 in
            let g : a.grid ≡ s.grid = ap (λ (a : ReadingTold). a.grid) e.0 in
            let k : a.ranking ≡ s.ranking = ap (λ (a : ReadingTold). a.ranking) e.0 in
            let table = same_table q.text.is q.starts.is q.east.is q.north.is q.score.is in
            is ∙ rw (g, k, q.typed) (ap (λ u. reply_to u s.grid (folded_text s.text) s.ranking) table);
        other = λ none. let z : ◌≡◌ {A = ℕ} 0 14 = ap (λ (a : ReadingTold). a.refusal) (reads.other none) in absurd (omega arith);
      })
