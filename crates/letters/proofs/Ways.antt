-- The ways out of a question on a session's letters: refused for what the session holds, or from the listing that its path leads to.
-- Assumes nothing.
use mathlib.Core.Path.{◌≡◌, sym, ap, ◌∙◌}
use mathlib.Core.Logic.{◌⊎◌, inl, inr}
use mathlib.Core.List.{List}
use Prim.Native.Nat.{ℕ, ◌≤◌, ◌<◌}
use native.Mathlib.Omega.{arith}
use borrow.Author.Tests.{lt-ltb, le-ltb}
use Rattle.base.proofs.Tests.{le_or_lt}
use Rattle.rules.specs.declared.Grid.{Grid}
use Rattle.rules.specs.declared.Rect.{Rect}
use Rattle.rules.specs.declared.Ranking.{Ranking}
use Rattle.rules.specs.declared.Session.{Session}
use Rattle.rules.specs.declared.Refusal.{Refusal}
use Rattle.rules.specs.Numbers.{refusal_number, AnyTold, refusing_any, first_given}
use Rattle.rules.specs.Names.{folded_text, text_refusal}
use Rattle.rules.specs.Tables.{Table}
use Rattle.rules.specs.Questions.{range_list, rect_refusal, ranking, ranking_refusal}
use Rattle.rules.specs.Outcomes.{Outcome, refused, range_outcome, any_outcome, ranked_outcome}
use Rattle.rules.specs.Indexes.{Index}
use Rattle.rules.specs.Sessions.{letters_of}
use Rattle.rules.specs.Promises.{Kept, LawfulBoth, TypedRangePromise, TypedAnyPromise, TypedRankedPromise}
use Rattle.rules.proofs.Folds.{text_same}
use Rattle.rules.proofs.Outcomes.{settled-refused}
use Rattle.rules.proofs.Outcomes as outcomes
use Rattle.walk.specs.Walks.{Child}
use Rattle.walk.specs.Listings.{Listed, listing_at}
use Rattle.walk.specs.Asked as asked
use Rattle.walk.proofs.Asked.{from_kept, text_refused, node-listed}
use Rattle.session.specs.Strokes.{reached}
use Rattle.session.proofs.Sessions.{lawful-short, lawful-reached}
use Rattle.range.specs.Promises.{RangeFrom}
use Rattle.any.specs.Promises.{AnyFrom}
use Rattle.search.specs.Searches.{table_columns}
use Rattle.ranked.specs.Promises.{RankedFrom}
use Rattle.letters.specs.Letters.{letters_refusal}

-- ---- what the letters are refused with

module _ (s : Session) where
  pub over : 24 < s.len → letters_refusal s ≡ 7
  unfolding letters_refusal
  over h = rw (lt-ltb 24 s.len h)

  pub within : s.len ≤ 24 → letters_refusal s ≡ text_refusal (folded_text (letters_of s))
  unfolding letters_refusal
  within h = rw (le-ltb 24 s.len h)

  -- which of the two a refusal is
  refused_as : (n : ℕ) → n ≡ letters_refusal s → ((24 < s.len) × (n ≡ 7)) ⊎ (n ≡ text_refusal (folded_text (letters_of s)))
  refused_as n e = step (le_or_lt s.len 24)
    where
      step : (s.len ≤ 24) ⊎ (24 < s.len) → ((24 < s.len) × (n ≡ 7)) ⊎ (n ≡ text_refusal (folded_text (letters_of s)))
      step (inl h) = inr (e ∙ within h)
      step (inr h) = inl (h, e ∙ over h)

  taken : letters_refusal s ≡ 0 → text_refusal (folded_text (letters_of s)) ≡ 0
  taken e = step (refused_as 0 (sym e))
    where
      step : ((24 < s.len) × (◌≡◌ {A = ℕ} 0 7)) ⊎ (0 ≡ text_refusal (folded_text (letters_of s))) → text_refusal (folded_text (letters_of s)) ≡ 0
      step (inl (h, n)) = absurd (omega arith)
      step (inr f) = sym f

-- ---- the questions

module _ (t : Table) (g : Grid) (x : Index) (s : Session) where
  -- 7 for a length that no lawful session has, or as the letters are refused
  refused_by : {Item Out : Type 0} (comes_to : ℕ → List Item → Out) (meant : List Item) (refused : ℕ → Out) (n : ℕ) → ((m : ℕ) (list : List Item) → (m ≡ 0 → ⊥) → comes_to m list ≡ refused m)
      → (why : Refusal) → refusal_number why ≡ letters_refusal s
      → Kept (LawfulBoth t g x s) (comes_to (first_given (text_refusal (folded_text (letters_of s))) n)) meant (refused 7) (refused (refusal_number why))
  refused_by comes_to meant refused n whatever why e = step (refused_as s (refusal_number why) e)
    where
      step : ((24 < s.len) × (refusal_number why ≡ 7)) ⊎ (refusal_number why ≡ text_refusal (folded_text (letters_of s)))
          → Kept (LawfulBoth t g x s) (comes_to (first_given (text_refusal (folded_text (letters_of s))) n)) meant (refused 7) (refused (refusal_number why))
      step (inl (h, seven)) = record { exact = λ l. absurd (omega (arith, lawful-short t s l.session)); harmless = inl (ap refused seven) }
      step (inr f) = text_refused (LawfulBoth t g x s) comes_to meant refused (folded_text (letters_of s)) n whatever why f

  -- where its path leads is the listing of its letters, which a lawful session has folded
  served : (at : Listed) (c : Child) → at ≡ listing_at x.nodes x.bits c → c ≡ reached s → LawfulBoth t g x s
      → asked.Listed t.east t.north t.score g x.order x.entries at t (folded_text (letters_of s))
  served at c e came l = rw (text_same (letters_of s) l.session.allowed) (node-listed t g x (letters_of s) at (e ∙ ap (listing_at x.nodes x.bits) (came ∙ lawful-reached t s l.session)) l.set)

  module _ (r : Rect) (rooms : List (List ℕ)) where
    pub range_refused : (why : Refusal) → refusal_number why ≡ letters_refusal s → TypedRangePromise t g x s r rooms (refused (refusal_number why) rooms)
    range_refused =
        refused_by (λ n list. range_outcome n list rooms) (range_list t g (folded_text (letters_of s)) r) (λ n. refused n rooms) (rect_refusal r) (λ n list some. settled-refused n _ _ _ _ _ some)

    pub range_reached : (at : Listed) (c : Child) (o : Outcome) → letters_refusal s ≡ 0 → at ≡ listing_at x.nodes x.bits c → c ≡ reached s
        → RangeFrom t g x at r rooms o → TypedRangePromise t g x s r rooms o
    range_reached at c o fine e came w =
        from_kept _ (λ t' q. asked.Listed t.east t.north t'.score g x.order x.entries at t' q) (λ n list. range_outcome n list rooms) (λ t p. range_list t g p r) (refused 7 rooms) o t (folded_text (letters_of s))
        (rect_refusal r) (taken s fine) (served at c e came) w

  module _ (r : Rect) where
    pub any_refused : (why : Refusal) → refusal_number why ≡ letters_refusal s → TypedAnyPromise t g x s r (refusing_any (refusal_number why))
    any_refused = refused_by any_outcome (range_list t g (folded_text (letters_of s)) r) refusing_any (rect_refusal r) outcomes.any_refused

    pub any_reached : (at : Listed) (c : Child) (o : AnyTold) → letters_refusal s ≡ 0 → at ≡ listing_at x.nodes x.bits c → c ≡ reached s
        → AnyFrom t g x at r o → TypedAnyPromise t g x s r o
    any_reached at c o fine e came w =
        from_kept _ (λ t' q. asked.Listed t.east t.north t'.score g x.order x.entries at t' q) any_outcome (λ t p. range_list t g p r) (refusing_any 7) o t (folded_text (letters_of s))
        (rect_refusal r) (taken s fine) (served at c e came) w

  module _ (q : Ranking) (rooms : List (List ℕ)) where
    pub ranked_refused : (why : Refusal) → refusal_number why ≡ letters_refusal s → TypedRankedPromise t g x s q rooms (refused (refusal_number why) rooms)
    ranked_refused =
        refused_by (λ n hits. ranked_outcome n q.k hits rooms) (ranking t g (folded_text (letters_of s)) q) (λ n. refused n rooms) (ranking_refusal g q) (λ n hits some. settled-refused n _ _ _ _ _ some)

    pub ranked_reached : (at : Listed) (c : Child) (o : Outcome) → letters_refusal s ≡ 0 → at ≡ listing_at x.nodes x.bits c → c ≡ reached s
        → RankedFrom (table_columns t) g x.order x.entries at q rooms o → TypedRankedPromise t g x s q rooms o
    ranked_reached at c o fine e came w =
        from_kept _ (asked.Listed t.east t.north t.score g x.order x.entries at) (λ n hits. ranked_outcome n q.k hits rooms) (λ t p. ranking t g p q) (refused 7 rooms) o t (folded_text (letters_of s))
        (ranking_refusal g q) (taken s fine) (served at c e came) w
