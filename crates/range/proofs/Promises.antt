-- The promise of a range question: from a listing by what it makes of the stands there, and from a text.
-- Assumes nothing.
use mathlib.Core.Path.{◌≡◌, refl, sym, ap, ◌∙◌}
use mathlib.Core.Logic.{inl, inr}
use mathlib.Core.Bool.{Bool, true, false, cond}
use mathlib.Core.List.{List, [], ◌∷◌}
use Prim.Native.Nat.{ℕ}
use native.Mathlib.Omega.{arith}
use lib.IntN.{ℤ}
use lib.ListN.{length}
use borrow.Author.Tests.{le-leb}
use Rattle.std.specs.Prelude.{Option, Some, None, Result, Ok, Err}
use Rattle.base.specs.Lists.{keep}
use Rattle.rules.specs.declared.Grid.{Grid}
use Rattle.rules.specs.declared.Rect.{Rect}
use Rattle.rules.specs.declared.Refusal.{Refusal}
use Rattle.rules.specs.Numbers.{verdict_number, range_refused}
use Rattle.rules.specs.Names.{folded_text, text_refusal}
use Rattle.rules.specs.Tables.{Table}
use Rattle.rules.specs.Questions.{range_list, rect_refusal}
use Rattle.rules.specs.Outcomes.{Outcome, refused, range_outcome, range_came}
use Rattle.rules.specs.Promises.{Harmless, RangePromise}
use Rattle.rules.specs.Indexes.{Index}
use Rattle.rules.proofs.Outcomes.{settled-refused}
use Rattle.grid.proofs.Covers.{Edges}
use Rattle.walk.specs.Walks.{node_in}
use Rattle.walk.specs.Listings.{Listed, listing_at}
use Rattle.walk.specs.Asked as asked
use Rattle.walk.proofs.Asked.{from_kept, text_refused, text_listed}
use Rattle.runs.specs.declared.Runs.{Runs}
use Rattle.runs.specs.Runs.{easts, norths, stands_there, met_by, met_at}
use Rattle.runs.specs.Sights.{inside, known}
use Rattle.runs.specs.Promises.{Sees, Answers}
use Rattle.runs.proofs.Promises.{look-kept}
use Rattle.range.specs.Fetches.{looked}
use Rattle.range.specs.Promises.{RangeFrom}

-- ---- from a listing

-- what is looked at is answered
sees-looked : (east north : List ℤ) (rect : Rect) (seen room : List ℕ)
    → Sees (λ list. range_outcome 0 list (room ∷ [])) (refused 7 (room ∷ [])) east north rect seen (looked east north rect seen room)
unfolding looked
sees-looked east north rect seen room = record { exact = λ q. rw q; harmless = either (known east seen) }
  where
    list : List ℕ
    list = keep (inside east north rect) seen

    either : (all : Bool) → Harmless (λ list. range_outcome 0 list (room ∷ [])) (refused 7 (room ∷ [])) (cond all (range_outcome 0 list (room ∷ [])) (refused 7 (room ∷ [])))
    either true = inr (list, refl)
    either false = inl refl

-- by what the question begins with
module _ (t : Table) (g : Grid) (x : Index) (at : Listed) (r : Rect) (edges : Edges r) (room : List ℕ) (met : Result (Option Runs) Refusal) (is : met_by met ≡ met_at t g x at r) where
  pub kept : (o : Outcome) → Answers (λ n list. range_outcome n list (room ∷ [])) (λ n. refused n (room ∷ [])) r (met_by met) o → RangeFrom t g x at r (room ∷ []) o
  kept o = look-kept (λ n list. range_outcome n list (room ∷ [])) (λ n. refused n (room ∷ [])) (λ n list some. settled-refused n _ _ _ _ _ some)
      t.east t.north g x.order x.entries r o edges at (met_by met) is

  pub from_runs : (runs : Runs) → met ≡ Ok (Some runs) → (o : Outcome) → o ≡ looked (easts runs) (norths runs) r (stands_there runs) room → RangeFrom t g x at r (room ∷ []) o
  from_runs runs e o f = kept o (rw (e, f) (sees-looked (easts runs) (norths runs) r (stands_there runs) room))

  pub from_nothing : met ≡ Ok None → RangeFrom t g x at r (room ∷ []) (range_came (Ok 0) room)
  from_nothing e =
      let none : range_came (Ok 0) room ≡ range_outcome 0 [] (room ∷ []) = sym (rw (le-leb 0 (length room) (omega arith))) in
      kept _ (rw e none)

-- ---- from a text

module _ (t : Table) (g : Grid) (x : Index) (p : List ℕ) (r : Rect) (room : List ℕ) where
  pub of_refused : (v : Result Unit Refusal) (why : Refusal) → verdict_number v ≡ text_refusal (folded_text p) → v ≡ Err why
      → RangePromise t g x p r (room ∷ []) (range_came (Err (range_refused why)) room)
  of_refused v why e q =
      text_refused _ (λ n list. range_outcome n list (room ∷ [])) (range_list t g (folded_text p) r) (λ n. refused n (room ∷ [])) (folded_text p) (rect_refusal r) (λ n list some. settled-refused n _ _ _ _ _ some) why (ap verdict_number (sym q) ∙ e)

  pub of_listed : (o : Outcome) (v : Result Unit Refusal) (u : Unit) (at : Listed) → verdict_number v ≡ text_refusal (folded_text p) → v ≡ Ok u → at ≡ listing_at x.nodes x.bits (node_in x.nodes (folded_text p))
      → RangeFrom t g x at r (room ∷ []) o → RangePromise t g x p r (room ∷ []) o
  of_listed o v u at e fine walked w =
      from_kept _ (λ t' q. asked.Listed t.east t.north t'.score g x.order x.entries at t' q) (λ n list. range_outcome n list (room ∷ [])) (λ t p. range_list t g p r) (refused 7 (room ∷ [])) o t (folded_text p)
      (rect_refusal r) (sym e ∙ ap verdict_number fine) (text_listed t g x (folded_text p) at walked) w
