-- What the promises come to on lawful sets and sessions: one outcome, never 7, a lawful session again, the one that typing the letters from fresh gives.
-- And that a rub-out undoes a typed letter. Assumes nothing.
use mathlib.Core.Path.{◌≡◌, refl, sym, ap, ◌∙◌, subst, ap₂}
use mathlib.Core.Logic.{⊎_elim}
use mathlib.Core.List.{List, []}
use Prim.Native.Nat.{ℕ, ◌≤◌}
use native.Mathlib.Omega.{arith}
use lib.ListN.{length, get_or}
use Rattle.std.specs.Prelude.{Result, Ok, Some}
use Rattle.base.proofs.Begins.{in_or_out}
use Rattle.rules.specs.declared.Session.{Session}
use Rattle.rules.specs.declared.Refusal.{Refusal}
use Rattle.rules.specs.Numbers.{verdict_number}
use Rattle.rules.specs.Names.{folded}
use Rattle.rules.specs.Tables.{Table}
use Rattle.rules.specs.Indexes.{beginnings, but_last}
use Rattle.rules.specs.Sessions.{node_or0, fresh_session, letters_of, LawfulSession, letters_typed}
use Rattle.rules.proofs.Bytes.{text_parts, text_taken}
use Rattle.rules.proofs.Folds.{refusal_folded, letters_folded}
use Rattle.rules.proofs.Numbers.{one_verdict}
use Rattle.meaning.proofs.Walking.{node_in}
use Rattle.walk.specs.Walks.{node}
use Rattle.walk.specs.Nodes.{node_of}
use Rattle.walk.proofs.Lawful.{node_of_in, node_of_out}
use Rattle.session.specs.Strokes.{lost, reached}
use Rattle.session.specs.Promises.{KeyPromise, TableOf, TypePromise, RubPromise}
use Rattle.session.proofs.Steps.{reached_nowhere, reached-node}
use Rattle.session.proofs.Letters.{typed_allowed, rubbed_allowed, type_not_seven, rub_not_seven}
use Rattle.session.proofs.Texts.{lawful_len, session-lawful, fresh_is, path_last}
use Rattle.session.proofs.Lawful.{lost-in, lost_out}

-- ---- a lawful session

module _ (t : Table) (s : Session) (l : LawfulSession t s) where
  short : length (letters_of s) ≤ 24
  short = (text_parts (letters_of s) l.allowed).0

  pub lawful-short : s.len ≤ 24
  lawful-short = omega (arith, lawful_len t s l, short)

  -- the last place of its path is the node of its letters, or 0 where there is none
  pub lawful_last : get_or s.path s.len 0 ≡ node_or0 t (letters_of s)
  lawful_last = ap (λ (u : Session). get_or u.path u.len 0) l.same ∙ path_last t (letters_of s) short

  -- where its letters came to is their node
  pub lawful-reached : reached s ≡ node_of t (letters_of s)
  lawful-reached =
      let p = letters_of s in
      let found : lost s.len (get_or s.path s.len 0) ≡ lost (length p) (node_or0 t p) = ap₂ lost (lawful_len t s l) lawful_last in
      ⊎_elim
      (λ h. reached-node s lawful-short (found ∙ lost-in t p h) ∙ ap (λ (n : ℕ). Ok (Some (node n))) (lawful_last ∙ node_in t p h) ∙ sym (node_of_in t p h))
      (λ h. reached_nowhere s lawful-short (found ∙ lost_out t p h) ∙ sym (node_of_out t p h))
      (in_or_out p (beginnings t))

pub fresh-lawful : (t : Table) → LawfulSession t fresh_session
fresh-lawful t = subst (LawfulSession t) (sym (fresh_is t)) (session-lawful t [] (text_taken [] (omega arith) refl))

-- ---- one outcome

-- no two outcomes of a keystroke keep its promise on a lawful set and session
pub one_outcome : (refusal : List ℕ → ℕ) (letters : List ℕ → List ℕ) (Served : Table → Type 0) (s s' s'' : Session) (v w : Result Unit Refusal) (t : Table) → Served t → LawfulSession t s
    → KeyPromise refusal letters Served s s' v → KeyPromise refusal letters Served s s'' w → (v ≡ w) × (s' ≡ s'')
one_outcome refusal letters Served s s' s'' v w t of l a b =
    let x = a.lawful t of l in
    let y = b.lawful t of l in
    (one_verdict v w (x.0 ∙ sym y.0), x.1 ∙ sym y.1)

-- ---- typing and rubbing out

module _ (nodes : List ℕ) (b : ℕ) (s s' : Session) (v : Result Unit Refusal) (done : TypePromise nodes b s s' v) (t : Table) (of : TableOf nodes t) (l : LawfulSession t s) where
  pub type_never_seven : verdict_number v ≡ 7 → ⊥
  type_never_seven e = type_not_seven (letters_of s) b (sym (done.lawful t of l).0 ∙ e)

  -- the session is lawful again
  pub type_lawful_again : LawfulSession t s'
  type_lawful_again =
      subst (LawfulSession t) (sym (done.lawful t of l).1) (session-lawful t (letters_typed (letters_of s) b) (typed_allowed (letters_of s) b l.allowed))

-- what is promised for a byte is promised for its small letter
pub type_folded : (nodes : List ℕ) (b : ℕ) (s s' : Session) (v : Result Unit Refusal) → TypePromise nodes (folded b) s s' v ≡ TypePromise nodes b s s' v
type_folded nodes b s s' v = λ i. KeyPromise (λ p. refusal_folded p b i) (λ p. letters_folded p b i) (TableOf nodes) s s' v

module _ (s s' : Session) (v : Result Unit Refusal) (done : RubPromise s s' v) (t : Table) (l : LawfulSession t s) where
  pub rub_never_seven : verdict_number v ≡ 7 → ⊥
  rub_never_seven e = rub_not_seven (letters_of s) (sym (done.lawful t tt l).0 ∙ e)

  pub rub_lawful_again : LawfulSession t s'
  rub_lawful_again = subst (LawfulSession t) (sym (done.lawful t tt l).1) (session-lawful t (but_last (letters_of s)) (rubbed_allowed (letters_of s) l.allowed))
