-- The state is the one of a run in which only the standing letters were typed; and that run exists: each of them is accepted.
-- Assumes nothing.
use mathlib.Core.Path.{◌≡◌, refl, sym, ap, ◌∙◌, subst}
use mathlib.Core.Bool.{true}
use mathlib.Core.List.{List, [], ◌∷◌, ◌++◌, append_assoc}
use Prim.Native.Nat.{ℕ, ◌<◌}
use native.Mathlib.Omega.{arith}
use lib.ListN.{length, length-append, length-replicate}
use Rattle.base.specs.Lists.{all}
use Rattle.base.proofs.Tests.{and_parts}
use Rattle.base.proofs.Scans.{all_right}
use Rattle.rules.specs.declared.Grid.{Grid}
use Rattle.std.specs.Prelude.{Ok}
use Rattle.rules.specs.Names.{allowed, folded, folded_text, text_refusal}
use Rattle.rules.specs.Tables.{Table}
use Rattle.rules.specs.Indexes.{Index, set_lawful}
use Rattle.rules.specs.Sessions.{session_of, letters_typed}
use Rattle.rules.proofs.Bytes.{text_parts, text_taken}
use Rattle.rules.proofs.Folds.{text_same}
use Rattle.session.specs.Strokes.{Stroke, verdict, stands}
use Rattle.session.specs.Promises.{TypePromise}
use Rattle.session.proofs.Letters.{type_taken, typed_allowed, rubbed_allowed}
use Rattle.session.proofs.Lawful.{typed_served}
use Rattle.session.proofs.Promises.{type_keeps}
use Rattle.finder.specs.Runs.{State, Lawful, with_session, Deed, Done, Run, last_state, letters_after, standing, Stands, letters_in, rubs_in, fresh_state, typing}
use Rattle.finder.proofs.Runs.{taken_typing, fresh-stands, run_means, run_ends, run-set, types_stand}

-- ---- two runs from the fresh session

-- states of one set and of the same letters are the same
same_state : (S R R' : State) (p : List ℕ) → R ≡ with_session S R.session → R' ≡ with_session S R'.session → Stands R p → Stands R' p → R ≡ R'
same_state S R R' p e e' w w' =
    let at : (Q : State) → Q ≡ with_session S Q.session → Stands Q p → Q.session ≡ session_of S.table p =
    λ Q same stands. stands.session ∙ ap (λ (Q : State). session_of Q.table p) same in
    e ∙ ap (with_session S) (at R e w ∙ sym (at R' e' w')) ∙ sym e'

module _ (t : Table) (g : Grid) (x : Index) (law : set_lawful t g x ≡ true) where
  -- the state is the one of any run in which only the standing letters were accepted
  pub as_typed : (run other : List Done) → Run (fresh_state t g x) run → Run (fresh_state t g x) other → rubs_in other ≡ 0 → letters_in other ≡ standing [] run
      → last_state (fresh_state t g x) run ≡ last_state (fresh_state t g x) other
  as_typed run other r o none same =
      let letters : standing [] other ≡ standing [] run = types_stand (fresh_state t g x) other none [] (run_means t g x law other o) ∙ same in
      same_state (fresh_state t g x) (last_state (fresh_state t g x) run) (last_state (fresh_state t g x) other) (standing [] run)
      (run-set (fresh_state t g x) run r) (run-set (fresh_state t g x) other o)
      (run_ends t g x law run r)
      (subst (Stands (last_state (fresh_state t g x) other)) letters (run_ends t g x law other o))

-- ---- a text typed letter by letter

-- no rub-out is among them, and the letters are the text's as they are read
typing_rubs : (S : State) (p l : List ℕ) → rubs_in (typing S p l) ≡ 0
typing_rubs S p [] = refl
typing_rubs S p (b ∷ l) = typing_rubs (with_session S (session_of S.table (letters_typed p b))) (letters_typed p b) l

typing_letters : (S : State) (p l : List ℕ) → letters_in (typing S p l) ≡ folded_text l
typing_letters S p [] = refl
typing_letters S p (b ∷ l) = ap (λ (m : List ℕ). folded b ∷ m) (typing_letters (with_session S (session_of S.table (letters_typed p b))) (letters_typed p b) l)

text_full : (t : Table) (p : List ℕ) → length p < 24 → length (session_of t p).text ≡ 24
unfolding session_of
text_full t p h = simp (length-append, length-replicate) (omega arith)

-- one letter that is allowed as it is read is accepted, and leaves the session of the letters with it
letter_accepted : (S : State) → Lawful S → (p : List ℕ) (b : ℕ) → length p < 24 → allowed (folded b) ≡ true
    → TypePromise S.index.nodes b (session_of S.table p) (session_of S.table (p ++ (folded b ∷ []))) (Ok tt)
letter_accepted S law p b h a =
    subst (λ (k : Stroke). TypePromise S.index.nodes b (session_of S.table p) (stands (session_of S.table p) k) (verdict k))
    (typed_served S.index.nodes S.table (S.grid, S.index, law, refl) p (folded b) h a)
    (type_keeps S.index.nodes (session_of S.table p) b (text_full S.table p h))

-- so a text that is allowed as it is read can be typed behind another
typing-run : (S : State) → Lawful S → (p l : List ℕ) → S.session ≡ session_of S.table p → text_refusal (p ++ folded_text l) ≡ 0 → Run S (typing S p l)
typing-run S law p [] same fine = tt
typing-run S law p (b ∷ l) same fine =
    let parts = text_parts (p ++ folded_text (b ∷ l)) fine in
    let short : length p < 24 = omega (arith, parts.0, length-append p (folded_text (b ∷ l))) in
    let spelled : allowed (folded b) ≡ true = (and_parts (allowed (folded b)) (all allowed (folded_text l)) (all_right allowed p (folded_text (b ∷ l)) parts.1)).0 in
    let longer : letters_typed p b ≡ p ++ (folded b ∷ []) = taken_typing p b (sym (type_taken p b short spelled)) in
    let S' : State = with_session S (session_of S.table (letters_typed p b)) in (
      record {
        set = refl;
        call = rw (same, longer) (letter_accepted S law p b short spelled);
      },
      typing-run S' law (letters_typed p b) l refl (rw (longer, append_assoc p (folded b ∷ []) (folded_text l)) fine),
    )

-- no letters stand but such as may be typed
standing-allowed : (p : List ℕ) → text_refusal p ≡ 0 → (run : List Done) → text_refusal (standing p run) ≡ 0
standing-allowed p fine [] = fine
standing-allowed p fine (d ∷ run) = standing-allowed (letters_after p d.deed) (step d.deed) run
  where
    step : (e : Deed) → text_refusal (letters_after p e) ≡ 0
    step (Deed.types b v) = typed_allowed p b fine
    step (Deed.rubs v) = rubbed_allowed p fine
    step (Deed.asks_range r rooms o) = fine
    step (Deed.asks_any r o) = fine
    step (Deed.asks_ranked q rooms o) = fine

-- whatever was done, typing the standing letters from fresh is accepted letter by letter and comes to the same state
pub as_typed_afresh : (t : Table) (g : Grid) (x : Index) → set_lawful t g x ≡ true → (run : List Done) → Run (fresh_state t g x) run
    → Run (fresh_state t g x) (typing (fresh_state t g x) [] (standing [] run)) × (last_state (fresh_state t g x) run ≡ last_state (fresh_state t g x) (typing (fresh_state t g x) [] (standing [] run)))
as_typed_afresh t g x law run r =
    let S : State = fresh_state t g x in
    let l : List ℕ = standing [] run in
    let fine : text_refusal l ≡ 0 = standing-allowed [] (text_taken [] (omega arith) refl) run in
    let small : folded_text l ≡ l = text_same l fine in
    let o : Run S (typing S [] l) = typing-run S law [] l (fresh-stands t g x law).session (rw small fine) in
    (o, as_typed t g x law run (typing S [] l) r o (typing_rubs S [] l) (typing_letters S [] l ∙ small))
