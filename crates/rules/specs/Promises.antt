-- What the questions promise: on a lawful set the outcome of the list that the rules mean; on any other, nothing that does harm.
-- A promise speaks of a set (a table t, a grid g, an index x), of the question, of its rooms before the call, and of what came of it, o.
-- Whether there is any stand has no rooms, and comes to no more than is told.
use Rattle.std.specs.Prelude.{◌≡◌, ◌⊎◌, true, List, ℕ}
use Rattle.rules.specs.declared.Grid.{Grid}
use Rattle.rules.specs.declared.Rect.{Rect}
use Rattle.rules.specs.declared.Ranking.{Ranking}
use Rattle.rules.specs.declared.Session.{Session}
use Rattle.rules.specs.Numbers.{AnyTold, refusing_any}
use Rattle.rules.specs.Names.{folded_text}
use Rattle.rules.specs.Tables.{Table}
use Rattle.rules.specs.Questions.{range_list, range_refusal, ranking, ranked_refusal}
use Rattle.rules.specs.Outcomes.{Outcome, refused, range_outcome, any_outcome, ranked_outcome}
use Rattle.rules.specs.Indexes.{Index, set_lawful}
use Rattle.rules.specs.Sessions.{letters_of, LawfulSession}

-- 7, or what some list comes to: so 9, 8, 11 and 12 are given as the rules say, and no more is written than is told
abbrev pub Harmless : {Item Out : Type 0} → (List Item → Out) → (seven : Out) → Out → Type 0
Harmless {Item} comes_to seven o = (o ≡ seven) ⊎ ((list : List Item) × (o ≡ comes_to list))

-- where Lawful holds, what the list that is meant comes to
pub record Kept {Item Out : Type 0} (Lawful : Type 0) (comes_to : List Item → Out) (meant : List Item) (seven o : Out) : Type 0 where
  pub exact : Lawful → o ≡ comes_to meant
  pub harmless : Harmless comes_to seven o

-- the questions on some letters
abbrev pub RangeKept : Type 0 → Table → Grid → List ℕ → Rect → List (List ℕ) → Outcome → Type 0
RangeKept Lawful t g p r rooms o = Kept Lawful (λ list. range_outcome (range_refusal p r) list rooms) (range_list t g p r) (refused 7 rooms) o

abbrev pub AnyKept : Type 0 → Table → Grid → List ℕ → Rect → AnyTold → Type 0
AnyKept Lawful t g p r o = Kept Lawful (any_outcome (range_refusal p r)) (range_list t g p r) (refusing_any 7) o

abbrev pub RankedKept : Type 0 → Table → Grid → List ℕ → Ranking → List (List ℕ) → Outcome → Type 0
RankedKept Lawful t g p q rooms o = Kept Lawful (λ hits. ranked_outcome (ranked_refusal g p q) q.k hits rooms) (ranking t g p q) (refused 7 rooms) o

-- a text that is given afresh is folded, and asks for nothing but a lawful set
abbrev pub RangePromise : Table → Grid → Index → List ℕ → Rect → List (List ℕ) → Outcome → Type 0
RangePromise t g x p r rooms o = RangeKept (set_lawful t g x ≡ true) t g (folded_text p) r rooms o

abbrev pub AnyPromise : Table → Grid → Index → List ℕ → Rect → AnyTold → Type 0
AnyPromise t g x p r o = AnyKept (set_lawful t g x ≡ true) t g (folded_text p) r o

abbrev pub RankedPromise : Table → Grid → Index → List ℕ → Ranking → List (List ℕ) → Outcome → Type 0
RankedPromise t g x p q rooms o = RankedKept (set_lawful t g x ≡ true) t g (folded_text p) q rooms o

-- a session's letters are folded as any text, and ask for a lawful session of the set's table too
pub record LawfulBoth (t : Table) (g : Grid) (x : Index) (s : Session) : Type 0 where
  pub set : set_lawful t g x ≡ true
  pub session : LawfulSession t s

abbrev pub TypedRangePromise : Table → Grid → Index → Session → Rect → List (List ℕ) → Outcome → Type 0
TypedRangePromise t g x s r rooms o = RangeKept (LawfulBoth t g x s) t g (folded_text (letters_of s)) r rooms o

abbrev pub TypedAnyPromise : Table → Grid → Index → Session → Rect → AnyTold → Type 0
TypedAnyPromise t g x s r o = AnyKept (LawfulBoth t g x s) t g (folded_text (letters_of s)) r o

abbrev pub TypedRankedPromise : Table → Grid → Index → Session → Ranking → List (List ℕ) → Outcome → Type 0
TypedRankedPromise t g x s q rooms o = RankedKept (LawfulBoth t g x s) t g (folded_text (letters_of s)) q rooms o
