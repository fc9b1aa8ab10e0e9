-- Keystrokes keep their promises: the steps by value, on any words and any session whose text has all its places.
-- Assumes nothing.
use mathlib.Core.Path.{◌≡◌, refl, sym, ap, ◌∙◌}
use mathlib.Core.Logic.{◌⊎◌, inl, inr, ⊎_elim}
use mathlib.Core.Bool.{true, false}
use mathlib.Core.List.{List, [], ◌∷◌, ◌++◌}
use Prim.Native.Nat.{ℕ, ◌≤◌, ◌<◌}
use native.Mathlib.Omega.{arith}
use lib.ListN.{length, get_or}
use borrow.Table.Steps.{cases}
use Rattle.base.proofs.Tests.{le_or_lt}
use Rattle.std.specs.Prelude.{Some, None, Ok, Err}
use Rattle.rules.specs.declared.Session.{Session}
use Rattle.rules.specs.Numbers.{verdict_number}
use Rattle.rules.specs.Names.{allowed, folded}
use Rattle.rules.specs.Tables.{Table}
use Rattle.rules.specs.Sessions.{session_of, letters_of, LawfulSession, type_refusal, letters_typed, rub_refusal, letters_rubbed}
use Rattle.rules.proofs.Bytes.{text_parts}
use Rattle.walk.specs.Walks.{Child}
use Rattle.session.specs.Strokes.{Stroke, verdict, stands, next_on, shortened, arrived, typed_on, rubbed_out}
use Rattle.session.specs.Promises.{TableOf, TypePromise, RubPromise}
use Rattle.session.proofs.Steps.{typed_over, typed_full, typed_unallowed, typed_arrived, rubbed_over, rubbed_none, rubbed_last}
use Rattle.session.proofs.Letters.{type_full, type_unallowed, type_taken, rub_none, rub_some, letters_count, letters_longer, letters_shorter}
use Rattle.session.proofs.Texts.{lawful_len, session_shorter}
use Rattle.session.proofs.Lawful.{typed_served}

-- what a promise says of a stroke on any words
abbrev Harmless : (List ℕ → ℕ) → (List ℕ → List ℕ) → Session → Stroke → Type 0
Harmless refusal letters s r = (verdict_number (verdict r) ≡ 7) ⊎ ((verdict_number (verdict r) ≡ refusal (letters_of s)) × (letters_of (stands s r) ≡ letters (letters_of s)))

abbrev Kept : Session → Stroke → Type 0
Kept s r = (verdict_number (verdict r) ≡ 0 → ⊥) → stands s r ≡ s

-- ---- typing

-- where typing stands: the tests in their order
data Typing (s : Session) (b : ℕ) : Type 0 where
  over : 24 < s.len → Typing s b
  full : s.len ≡ 24 → Typing s b
  unallowed : s.len < 24 → allowed b ≡ false → Typing s b
  open_to : s.len < 24 → allowed b ≡ true → Typing s b

typing : (s : Session) (b : ℕ) → Typing s b
typing s b =
    ⊎_elim
    (λ (h : 24 ≤ s.len). ⊎_elim (λ (k : s.len ≤ 24). full (omega arith)) over (le_or_lt s.len 24))
    (λ (h : s.len < 24). cases (allowed b) (open_to h) (unallowed h))
    (le_or_lt 24 s.len)

module _ (nodes : List ℕ) (s : Session) (b : ℕ) where
  abbrev letter : ℕ
  letter = folded b

  abbrev out : Stroke
  out = typed_on nodes s letter

  type_kept : Typing s letter → Kept s out
  type_kept (over h) = rw (typed_over nodes s letter h) (λ _. refl)
  type_kept (full h) = rw (typed_full nodes s letter h) (λ _. refl)
  type_kept (unallowed h a) = rw (typed_unallowed nodes s letter h a) (λ _. refl)
  type_kept (open_to h a) = rw (typed_arrived nodes s letter h a) (led (next_on nodes s.len (get_or s.path s.len 0) letter))
    where
      led : (c : Child) → Kept s (arrived s letter c)
      led (Ok (Some n)) k = absurd (k refl)
      led (Ok None) k = absurd (k refl)
      led (Err e) k = refl

  module _ (sized : length s.text ≡ 24) where
    type_harmless : Typing s letter → Harmless (λ p. type_refusal p b) (λ p. letters_typed p b) s out
    type_harmless (over h) = rw (typed_over nodes s letter h) (inl refl)
    type_harmless (full h) = rw (typed_full nodes s letter h, type_full (letters_of s) b (omega (arith, letters_count s sized (omega arith)))) (inr (refl, refl))
    type_harmless (unallowed h a) =
        rw (typed_unallowed nodes s letter h a, type_unallowed (letters_of s) b (omega (arith, letters_count s sized (omega arith))) a) (inr (refl, refl))
    type_harmless (open_to h a) =
        rw (typed_arrived nodes s letter h a, type_taken (letters_of s) b (omega (arith, letters_count s sized (omega arith))) a) (led (next_on nodes s.len (get_or s.path s.len 0) letter))
      where
        led : (c : Child) → Harmless (λ p. 0) (λ p. p ++ (letter ∷ [])) s (arrived s letter c)
        led (Ok (Some n)) = inr (refl, letters_longer s sized letter n.0 h)
        led (Ok None) = inr (refl, letters_longer s sized letter 0 h)
        led (Err e) = inl refl

  module _ (t : Table) (of : TableOf nodes t) (l : LawfulSession t s) where
    type_lawful : Typing s letter → (verdict_number (verdict out) ≡ type_refusal (letters_of s) b) × (stands s out ≡ session_of t (letters_typed (letters_of s) b))
    type_lawful (over h) = absurd (omega (arith, lawful_len t s l, (text_parts (letters_of s) l.allowed).0))
    type_lawful (full h) = rw (typed_full nodes s letter h, type_full (letters_of s) b (omega (arith, lawful_len t s l))) (refl, l.same)
    type_lawful (unallowed h a) = rw (typed_unallowed nodes s letter h a, type_unallowed (letters_of s) b (omega (arith, lawful_len t s l)) a) (refl, l.same)
    type_lawful (open_to h a) =
        let room : length (letters_of s) < 24 = omega (arith, lawful_len t s l) in
        let e : out ≡ Ok (session_of t (letters_of s ++ (letter ∷ []))) = ap (λ (u : Session). typed_on nodes u letter) l.same ∙ typed_served nodes t of (letters_of s) letter room a in
        rw (e, type_taken (letters_of s) b room a) (refl, refl)

pub type_keeps : (nodes : List ℕ) (s : Session) (b : ℕ) → length s.text ≡ 24 → TypePromise nodes b s (stands s (typed_on nodes s (folded b))) (verdict (typed_on nodes s (folded b)))
type_keeps nodes s b sized =
    record {
      lawful = λ t of l. type_lawful nodes s b t of l (typing s (folded b));
      harmless = type_harmless nodes s b sized (typing s (folded b));
      kept = type_kept nodes s b (typing s (folded b));
    }

-- ---- rubbing out

-- where rubbing out stands
data Rubbing (s : Session) : Type 0 where
  over : 24 < s.len → Rubbing s
  none : s.len ≡ 0 → Rubbing s
  some : s.len ≤ 24 → 0 < s.len → Rubbing s

rubbing : (s : Session) → Rubbing s
rubbing s = ⊎_elim (λ (h : s.len ≤ 24). ⊎_elim (λ (k : s.len ≤ 0). none (omega arith)) (some h) (le_or_lt s.len 0)) over (le_or_lt s.len 24)

module _ (s : Session) where
  last_out : s.len ≤ 24 → 0 < s.len → rubbed_out s ≡ Ok (shortened s)
  last_out h k = rubbed_last s h (λ e. omega arith)

  rub_kept : Rubbing s → Kept s (rubbed_out s)
  rub_kept (over h) = rw (rubbed_over s h) (λ _. refl)
  rub_kept (none h) = rw (rubbed_none s h) (λ _. refl)
  rub_kept (some h k) = rw (last_out h k) (λ n. absurd (n refl))

  module _ (sized : length s.text ≡ 24) where
    rub_harmless : Rubbing s → Harmless rub_refusal letters_rubbed s (rubbed_out s)
    rub_harmless (over h) = rw (rubbed_over s h) (inl refl)
    rub_harmless (none h) = let e = rub_none (letters_of s) (omega (arith, letters_count s sized (omega arith))) in rw (rubbed_none s h) (inr (sym e.0, sym e.1))
    rub_harmless (some h k) = rw (last_out h k) (inr (sym (rub_some (letters_of s) (omega (arith, letters_count s sized h))), letters_shorter s sized h))

  module _ (t : Table) (l : LawfulSession t s) where
    rub_lawful : Rubbing s → (verdict_number (verdict (rubbed_out s)) ≡ rub_refusal (letters_of s)) × (stands s (rubbed_out s) ≡ session_of t (letters_rubbed (letters_of s)))
    rub_lawful (over h) = absurd (omega (arith, lawful_len t s l, (text_parts (letters_of s) l.allowed).0))
    rub_lawful (none h) = let e = rub_none (letters_of s) (omega (arith, lawful_len t s l)) in rw (rubbed_none s h) (sym e.0, l.same ∙ ap (session_of t) (sym e.1))
    rub_lawful (some h k) =
        let n : 0 < length (letters_of s) = omega (arith, lawful_len t s l) in
        rw (last_out h k) (sym (rub_some (letters_of s) n), ap shortened l.same ∙ session_shorter t (letters_of s) n (omega (arith, lawful_len t s l)))

pub rub_keeps : (s : Session) → length s.text ≡ 24 → RubPromise s (stands s (rubbed_out s)) (verdict (rubbed_out s))
rub_keeps s sized =
    record {
      lawful = λ t _ l. rub_lawful s t l (rubbing s);
      harmless = rub_harmless s sized (rubbing s);
      kept = rub_kept s (rubbing s);
    }

-- ---- a stroke that was written into the session lent

pub type_written : (nodes : List ℕ) (s : Session) (b : ℕ) (r : Stroke) → r ≡ typed_on nodes s (folded b) → length s.text ≡ 24 → TypePromise nodes b s (stands s r) (verdict r)
type_written nodes s b r e sized = rw e (type_keeps nodes s b sized)

pub rub_written : (s : Session) (r : Stroke) → r ≡ rubbed_out s → length s.text ≡ 24 → RubPromise s (stands s r) (verdict r)
rub_written s r e sized = rw e (rub_keeps s sized)
