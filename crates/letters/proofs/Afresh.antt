-- For the reader: on a lawful set and session a question on the session's letters comes to what the same text given afresh does.
-- Assumes nothing.
use mathlib.Core.Path.{◌≡◌, sym, ◌∙◌}
use mathlib.Core.List.{List}
use Prim.Native.Nat.{ℕ}
use Rattle.rules.specs.declared.Grid.{Grid}
use Rattle.rules.specs.declared.Rect.{Rect}
use Rattle.rules.specs.declared.Ranking.{Ranking}
use Rattle.rules.specs.declared.Session.{Session}
use Rattle.rules.specs.Numbers.{AnyTold}
use Rattle.rules.specs.Tables.{Table}
use Rattle.rules.specs.Outcomes.{Outcome}
use Rattle.rules.specs.Indexes.{Index}
use Rattle.rules.specs.Sessions.{letters_of}
use Rattle.rules.specs.Promises.{RangePromise, AnyPromise, RankedPromise, LawfulBoth, TypedRangePromise, TypedAnyPromise, TypedRankedPromise}

module _ (t : Table) (g : Grid) (x : Index) (s : Session) (l : LawfulBoth t g x s) where
  pub any_as_afresh : (o o' : AnyTold) (r : Rect) → TypedAnyPromise t g x s r o → AnyPromise t g x (letters_of s) r o' → o ≡ o'
  any_as_afresh o o' r m n = m.exact l ∙ sym (n.exact l.set)

module _ (t : Table) (g : Grid) (x : Index) (s : Session) (l : LawfulBoth t g x s) (rooms : List (List ℕ)) (o o' : Outcome) where
  pub range_as_afresh : (r : Rect) → TypedRangePromise t g x s r rooms o → RangePromise t g x (letters_of s) r rooms o' → o ≡ o'
  range_as_afresh r m n = m.exact l ∙ sym (n.exact l.set)

  pub ranked_as_afresh : (q : Ranking) → TypedRankedPromise t g x s q rooms o → RankedPromise t g x (letters_of s) q rooms o' → o ≡ o'
  ranked_as_afresh q m n = m.exact l ∙ sym (n.exact l.set)
