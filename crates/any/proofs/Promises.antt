-- The promise of the question whether there is any stand: from a listing by what it makes of the stands there, and from a text.
-- Assumes nothing.
use mathlib.Core.Path.{◌≡◌, refl, sym, ap, ◌∙◌}
use mathlib.Core.Logic.{inl, inr}
use mathlib.Core.Bool.{true}
use mathlib.Core.List.{List, [], ◌∷◌}
use Prim.Native.Nat.{ℕ}
use lib.Dec.{ltb}
use lib.IntN.{ℤ}
use lib.ListN.{length}
use borrow.Table.Steps.{cases}
use Rattle.std.specs.Prelude.{Option, Some, Result, Ok, Err}
use Rattle.base.specs.Lists.{keep}
use Rattle.base.proofs.Tests.{and_parts}
use Rattle.rules.specs.declared.Grid.{Grid}
use Rattle.rules.specs.declared.Rect.{Rect}
use Rattle.rules.specs.declared.Refusal.{Refusal}
use Rattle.rules.specs.declared.Stand.{Stand}
use Rattle.rules.specs.Numbers.{AnyTold, refusing_any, any_numbers, verdict_number}
use Rattle.rules.specs.Names.{folded_text, text_refusal}
use Rattle.rules.specs.Tables.{Table}
use Rattle.rules.specs.Questions.{range_list, rect_refusal}
use Rattle.rules.specs.Outcomes.{any_outcome}
use Rattle.rules.specs.Promises.{Harmless, AnyPromise}
use Rattle.rules.specs.Indexes.{Index}
use Rattle.rules.proofs.Outcomes.{any_refused}
use Rattle.grid.proofs.Covers.{Edges}
use Rattle.walk.specs.Walks.{node_in}
use Rattle.walk.specs.Listings.{Listed, listing_at}
use Rattle.walk.specs.Asked as asked
use Rattle.walk.proofs.Asked.{from_kept, text_refused, text_listed}
use Rattle.runs.specs.declared.Runs.{Runs}
use Rattle.runs.specs.Runs.{easts, norths, stands_there, met_by, met_at}
use Rattle.runs.specs.Sights.{inside, sighted, known}
use Rattle.runs.specs.Promises.{Answers}
use Rattle.runs.proofs.Promises.{look-kept}
use Rattle.any.specs.Scans.{first_seen}
use Rattle.any.specs.Promises.{AnyFrom}

-- ---- from a listing

module _ (east north : List ℤ) (rect : Rect) where
  -- the first that is seen in the rectangle is the first of those in it
  first_exact : (seen : List ℕ) → known east seen ≡ true → any_numbers (first_seen east north rect seen) ≡ any_outcome 0 (keep (inside east north rect) seen)
  unfolding first_seen sighted
  first_exact [] q = refl
  first_exact (s ∷ l) q =
      let k = and_parts (ltb s (length east)) (known east l) q in
      cases (inside east north rect s) (λ e. rw (k.0, e)) (λ e. rw (k.0, e) (first_exact l k.1))

  first_harmless : (seen : List ℕ) → Harmless (any_outcome 0) (refusing_any 7) (any_numbers (first_seen east north rect seen))
  unfolding first_seen sighted
  first_harmless [] = inr ([], refl)
  first_harmless (s ∷ l) =
      cases (ltb s (length east))
      (λ t. cases (inside east north rect s) (λ e. rw (t, e) (inr (s ∷ [], refl))) (λ e. rw (t, e) (first_harmless l)))
      (λ t. rw t (inl refl))

-- by what the question begins with
module _ (t : Table) (g : Grid) (x : Index) (at : Listed) (r : Rect) (edges : Edges r) (met : Result (Option Runs) Refusal) (is : met_by met ≡ met_at t g x at r) where
  pub kept : (o : AnyTold) → Answers any_outcome refusing_any r (met_by met) o → AnyFrom t g x at r o
  kept o = look-kept any_outcome refusing_any any_refused t.east t.north g x.order x.entries r o edges at (met_by met) is

  pub from_runs : (runs : Runs) → met ≡ Ok (Some runs) → (a : Result (Option Stand) Refusal) → a ≡ first_seen (easts runs) (norths runs) r (stands_there runs) → AnyFrom t g x at r (any_numbers a)
  from_runs runs e a f =
      kept (any_numbers a)
      (rw (e, f) (record { exact = first_exact (easts runs) (norths runs) r (stands_there runs); harmless = first_harmless (easts runs) (norths runs) r (stands_there runs) }))

-- ---- from a text

module _ (t : Table) (g : Grid) (x : Index) (p : List ℕ) (r : Rect) where
  pub of_refused : (v : Result Unit Refusal) (why : Refusal) → verdict_number v ≡ text_refusal (folded_text p) → v ≡ Err why → AnyPromise t g x p r (any_numbers (Err why))
  of_refused v why e q = text_refused _ any_outcome (range_list t g (folded_text p) r) refusing_any (folded_text p) (rect_refusal r) any_refused why (ap verdict_number (sym q) ∙ e)

  pub of_listed : (o : AnyTold) (v : Result Unit Refusal) (u : Unit) (at : Listed) → verdict_number v ≡ text_refusal (folded_text p) → v ≡ Ok u → at ≡ listing_at x.nodes x.bits (node_in x.nodes (folded_text p))
      → AnyFrom t g x at r o → AnyPromise t g x p r o
  of_listed o v u at e fine walked w =
      from_kept _ (λ t' q. asked.Listed t.east t.north t'.score g x.order x.entries at t' q) any_outcome (λ t p. range_list t g p r) (refusing_any 7) o t (folded_text p)
      (rect_refusal r) (sym e ∙ ap verdict_number fine) (text_listed t g x (folded_text p) at walked) w
