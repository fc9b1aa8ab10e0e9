-- Whole inputs are read back: `read_input` accepts exactly the texts of records in their ranges, and gives the record.
-- Group by group, each from the laws of its lines. Assumes nothing.
use mathlib.Core.Path.{◌≡◌, refl, sym, ap, ◌∙◌}
use mathlib.Core.Logic.{inl, inr, ⊎_elim}
use mathlib.Core.List.{List, [], ◌∷◌, ◌++◌, append_assoc, append-nil}
use Prim.Native.Nat.{ℕ, zero, suc, ◌≤◌}
use native.Mathlib.Omega.{arith}
use lib.ListN.{length}
use borrow.Author.Tests.{le-leb, leb-true}
use Rattle.base.specs.Lists.{In, each_list}
use Rattle.rules.specs.declared.Grid.{Grid}
use Rattle.rules.specs.declared.Ranking.{Ranking}
use Rattle.lines.specs.Writing.{ascii, decimal_of, signed_of, line, OneLine}
use Rattle.desk_form.specs.Form.{StandLines, Input, grid_text, stand_text, question_text, input_text, StandInRanges, GridInRanges, RankingInRanges, InRanges}
use Rattle.lines.specs.Reads.{got, onward}
use Rattle.desk_form.specs.Reads.{grid_lines, stand_by, stand_lines, all_stands, question_lines, ended, input_of, all_lines, read_input}
use Rattle.lines.specs.Back.{ReadBack}
use Rattle.std.proofs.lemmas.Option.{some_pair_parts}
use Rattle.base.proofs.Tests.{tested}
use Rattle.lines.proofs.Lines.{lost, as_got, in_a_row, past-line, read_back}

abbrev GridOk : Grid × ℕ → Type 0
GridOk h = GridInRanges h.0 × (h.1 ≤ 64)

grid_back : (h : Grid × ℕ) (rest : List ℕ) → GridOk h → grid_lines (grid_text h.0 h.1 ++ rest) ≡ got h rest
unfolding grid_text grid_lines onward
grid_back h rest r =
    simp append_assoc
    (rw ((read_back.signed_line (ascii "west=")).back h.0.west _ r.0.west, (read_back.signed_line (ascii "south=")).back h.0.south _ r.0.south, (read_back.unsigned_line 65535 (ascii "cell=")).back h.0.cell _ r.0.cell, (read_back.unsigned_line 64 (ascii "stands=")).back h.1 rest r.1))

grid_sound : (l : List ℕ) (h : Grid × ℕ) (rest : List ℕ) → grid_lines l ≡ got h rest → GridOk h × (l ≡ grid_text h.0 h.1 ++ rest)
unfolding grid_text grid_lines
grid_sound l h rest e =
    past-line (read_back.signed_line (ascii "west=")) l _ h rest e (λ west l₁ r₁ s₁ e₁.
    past-line (read_back.signed_line (ascii "south=")) l₁ _ h rest e₁ (λ south l₂ r₂ s₂ e₂.
    past-line (read_back.unsigned_line 65535 (ascii "cell=")) l₂ _ h rest e₂ (λ cell l₃ r₃ s₃ e₃.
    past-line (read_back.unsigned_line 64 (ascii "stands=")) l₃ _ h rest e₃ (λ stands l₄ r₄ s₄ e₄.
    as_got (λ h rest. GridOk h × (l ≡ grid_text h.0 h.1 ++ rest)) _ h l₄ rest e₄
    ((record { west = r₁; south = r₂; cell = r₃ }, r₄), rw (s₁, s₂, s₃, s₄) (simp append_assoc))))))

pub grid_law : ReadBack (λ h. grid_text h.0 h.1) GridOk grid_lines
grid_law = record { back = grid_back; sound = grid_sound }

by_text : List ℕ → List ℕ → StandLines → List ℕ
by_text first last s =
    line first s.name ++ line (ascii "east=") (signed_of s.east) ++ line (ascii "north=") (signed_of s.north) ++ line last (decimal_of s.score)

by_law : (first last : List ℕ) → ReadBack (by_text first last) StandInRanges (stand_by first last)
unfolding by_text stand_by onward
by_law first last = record { back = back; sound = sound }
  where
    back : (s : StandLines) (rest : List ℕ) → StandInRanges s → stand_by first last (by_text first last s ++ rest) ≡ got s rest
    back s rest r =
        simp append_assoc
        (rw ((read_back.bytes_line first).back s.name _ r.name, (read_back.signed_line (ascii "east=")).back s.east _ r.east, (read_back.signed_line (ascii "north=")).back s.north _ r.north, (read_back.unsigned_line 65535 last).back s.score rest r.score))

    sound : (l : List ℕ) (s : StandLines) (rest : List ℕ) → stand_by first last l ≡ got s rest → StandInRanges s × (l ≡ by_text first last s ++ rest)
    sound l s rest e =
        past-line (read_back.bytes_line first) l _ s rest e (λ name l₁ r₁ s₁ e₁.
        past-line (read_back.signed_line (ascii "east=")) l₁ _ s rest e₁ (λ east l₂ r₂ s₂ e₂.
        past-line (read_back.signed_line (ascii "north=")) l₂ _ s rest e₂ (λ north l₃ r₃ s₃ e₃.
        past-line (read_back.unsigned_line 65535 last) l₃ _ s rest e₃ (λ score l₄ r₄ s₄ e₄.
        as_got (λ s rest. StandInRanges s × (l ≡ by_text first last s ++ rest)) _ s l₄ rest e₄
        (record { name = r₁; east = r₂; north = r₃; score = r₄ }, rw (s₁, s₂, s₃, s₄) (simp append_assoc))))))

pub stand_law : ReadBack stand_text StandInRanges stand_lines
unfolding by_text stand_text
stand_law = by_law (ascii "name=") (ascii "score=")

abbrev QuestionOk : List ℕ × Ranking → Type 0
QuestionOk q = OneLine q.0 × RankingInRanges q.1

-- the question's first four lines
abbrev four_of : List ℕ × Ranking → StandLines
four_of q = record { name = q.0; east = q.1.place.east; north = q.1.place.north; score = q.1.weight }

question_back : (q : List ℕ × Ranking) (rest : List ℕ) → QuestionOk q → question_lines (question_text q.0 q.1 ++ rest) ≡ got q rest
unfolding by_text question_text question_lines onward
question_back q rest r =
    let e : question_text q.0 q.1 ++ rest ≡ by_text (ascii "text=") (ascii "weight=") (four_of q) ++ (line (ascii "k=") (decimal_of q.1.k) ++ rest) = simp append_assoc in
    rw (e, (by_law (ascii "text=") (ascii "weight=")).back (four_of q) _ (record { name = r.0; east = r.1.east; north = r.1.north; score = r.1.weight }), (read_back.unsigned_line 65535 (ascii "k=")).back q.1.k rest r.1.k)

question_sound : (l : List ℕ) (q : List ℕ × Ranking) (rest : List ℕ) → question_lines l ≡ got q rest → QuestionOk q × (l ≡ question_text q.0 q.1 ++ rest)
unfolding by_text question_text question_lines
question_sound l q rest e =
    past-line (by_law (ascii "text=") (ascii "weight=")) l _ q rest e (λ four l₁ r₁ s₁ e₁.
    past-line (read_back.unsigned_line 65535 (ascii "k=")) l₁ _ q rest e₁ (λ k l₂ r₂ s₂ e₂.
    as_got (λ q rest. QuestionOk q × (l ≡ question_text q.0 q.1 ++ rest)) _ q l₂ rest e₂
    ((r₁.name, record { east = r₁.east; north = r₁.north; weight = r₁.score; k = r₂ }), rw (s₁, s₂) (simp append_assoc))))

pub question_law : ReadBack (λ q. question_text q.0 q.1) QuestionOk question_lines
question_law = record { back = question_back; sound = question_sound }

-- as many stands as were said
abbrev StandsOk : ℕ → List StandLines → Type 0
StandsOk n stands = (length stands ≡ n) × ((s : StandLines) → In s stands → StandInRanges s)

stands_back : (n : ℕ) (stands : List StandLines) (rest : List ℕ) → StandsOk n stands → all_stands n (each_list stand_text stands ++ rest) ≡ got stands rest
unfolding all_stands onward
stands_back zero [] rest r = refl
stands_back zero (s ∷ stands) rest r = absurd (omega (arith, r.0))
stands_back (suc n) [] rest r = absurd (omega (arith, r.0))
stands_back (suc n) (s ∷ stands) rest r =
    rw (append_assoc (stand_text s) (each_list stand_text stands) rest, stand_law.back s (each_list stand_text stands ++ rest) (r.1 s (inl refl)), stands_back n stands rest (omega (arith, r.0), λ z i. r.1 z (inr i)))

pub stands_sound : (n : ℕ) (l : List ℕ) (stands : List StandLines) (rest : List ℕ) → all_stands n l ≡ got stands rest → StandsOk n stands × (l ≡ each_list stand_text stands ++ rest)
unfolding all_stands
stands_sound zero l stands rest e = as_got (λ stands rest. StandsOk 0 stands × (l ≡ each_list stand_text stands ++ rest)) [] stands l rest e ((refl, λ z i. absurd i), refl)
stands_sound (suc n) l stands rest e =
    past-line stand_law l _ stands rest e (λ s l₁ r₁ s₁ e₁.
    in_a_row _ _ stands rest e₁ (λ more l₂ q e₂.
    let t = stands_sound n l₁ more l₂ q in
    as_got (λ stands rest. StandsOk (suc n) stands × (l ≡ each_list stand_text stands ++ rest)) (s ∷ more) stands l₂ rest e₂
    ((omega (arith, t.0.0), λ z. ⊎_elim (λ (i : z ≡ s). rw i r₁) (t.0.1 z)), rw (s₁, t.1) (simp append_assoc))))

-- the three groups in a row, and nothing behind them
grouped : (r : Input) → input_text r ≡ grid_text r.grid (length r.stands) ++ (each_list stand_text r.stands ++ (question_text r.text r.ranking ++ []))
unfolding input_text
grouped r = simp (append_assoc, append-nil)

pub input_back : (r : Input) → InRanges r → read_input (input_text r) ≡ got r []
unfolding read_input all_lines onward
input_back r h =
    rw (le-leb _ _ h.short, grouped r, grid_back (r.grid, length r.stands) _ (h.grid, h.few), stands_back (length r.stands) r.stands _ (refl, h.stands), question_back (r.text, r.ranking) [] (h.text, h.ranking))

joined : (l : List ℕ) (h : Grid × ℕ) (stands : List StandLines) (q : List ℕ × Ranking) → GridOk h → StandsOk h.1 stands → QuestionOk q
    → l ≡ grid_text h.0 h.1 ++ (each_list stand_text stands ++ (question_text q.0 q.1 ++ [])) → length l ≤ 16384
    → InRanges (input_of h.0 stands q) × (input_text (input_of h.0 stands q) ≡ l)
joined l h stands q g s w e short =
    let t : input_text (input_of h.0 stands q) ≡ l = grouped (input_of h.0 stands q) ∙ rw s.0 (sym e) in
    (record { grid = g.0; few = rw s.0 g.1; stands = s.1; text = w.0; ranking = w.1; short = rw t short }, t)

none_behind : {A X : Type 0} (a b : A) (l rest : List ℕ) → ended a l ≡ got b rest → (l ≡ [] → a ≡ b → X) → X
none_behind a b [] rest e next = next refl (as_got (λ z m. a ≡ z) a b [] rest e refl)
none_behind a b (c ∷ l) rest e next = lost e

pub input_sound : (l : List ℕ) (r : Input) (rest : List ℕ) → read_input l ≡ got r rest → InRanges r × (input_text r ≡ l)
unfolding read_input all_lines
input_sound l r rest e =
    let q = tested _ lost e in
    past-line grid_law l _ r rest q.1 (λ h l₁ r₁ s₁ e₁.
    in_a_row _ _ r rest e₁ (λ stands l₂ q₂ e₂.
    past-line question_law l₂ _ r rest e₂ (λ question l₃ r₃ s₃ e₃.
    none_behind _ r l₃ rest e₃ (λ none same.
    let t = stands_sound h.1 l₁ stands l₂ q₂ in
    rw same at (joined l h stands question r₁ t.0 r₃ (rw (s₁, t.1, s₃, none)) (leb-true _ _ q.0))))))

-- so no two records in their ranges have one text
pub one_record : (r s : Input) → InRanges r → InRanges s → input_text r ≡ input_text s → r ≡ s
one_record r s h k e = (some_pair_parts r s [] [] (sym (input_back r h) ∙ ap read_input e ∙ input_back s k)).0
