-- What a keystroke on a lent session promises. On a lawful set and session it is exactly the rules': the verdict, and the session of the letters that then stand.
-- On any other it is harmless: it gives 7, or goes on and gives the other numbers as the rules say; and a refused one leaves the session as it was.
use Rattle.std.specs.Prelude.{◌≡◌, ◌⊎◌, true, List, ℕ, Result}
use Rattle.rules.specs.declared.Grid.{Grid}
use Rattle.rules.specs.declared.Session.{Session}
use Rattle.rules.specs.declared.Refusal.{Refusal}
use Rattle.rules.specs.Numbers.{verdict_number}
use Rattle.rules.specs.Tables.{Table}
use Rattle.rules.specs.Indexes.{Index, set_lawful}
use Rattle.rules.specs.Sessions.{session_of, letters_of, LawfulSession, type_refusal, letters_typed, rub_refusal, letters_rubbed}

-- s and s' are the session before and after, v is what is answered. `refusal` and `letters` are the rules' number and new letters for the letters
-- that stood, and Served t says that the keystroke was lent the nodes of table t
pub record KeyPromise (refusal : List ℕ → ℕ) (letters : List ℕ → List ℕ) (Served : Table → Type 0) (s s' : Session) (v : Result Unit Refusal) : Type 0 where
  pub lawful : (t : Table) → Served t → LawfulSession t s → (verdict_number v ≡ refusal (letters_of s)) × (s' ≡ session_of t (letters (letters_of s)))
  -- 7, or as the rules say of whatever letters stand there
  pub harmless : (verdict_number v ≡ 7) ⊎ ((verdict_number v ≡ refusal (letters_of s)) × (letters_of s' ≡ letters (letters_of s)))
  -- a refused one alters nothing
  pub kept : (verdict_number v ≡ 0 → ⊥) → s' ≡ s

-- t is the table of a lawful set that has these nodes
abbrev pub TableOf : List ℕ → Table → Type 0
TableOf nodes t = (g : Grid) × (x : Index) × (set_lawful t g x ≡ true) × (x.nodes ≡ nodes)

abbrev pub TypePromise : List ℕ → ℕ → Session → Session → Result Unit Refusal → Type 0
TypePromise nodes b s s' v = KeyPromise (λ p. type_refusal p b) (λ p. letters_typed p b) (TableOf nodes) s s' v

-- rubbing out reads no nodes, so any table will do
abbrev pub RubPromise : Session → Session → Result Unit Refusal → Type 0
RubPromise s s' v = KeyPromise rub_refusal letters_rubbed (λ t. Unit {0}) s s' v
