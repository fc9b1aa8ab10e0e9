-- The ways out of the ranked question, each with the whole of its promise: from a listing, and from a text.
-- Assumes nothing.
use mathlib.Core.Path.{◌≡◌, refl, sym, ap, ◌∙◌, subst}
use mathlib.Core.Logic.{inl, inr}
use mathlib.Core.Bool.{false}
use mathlib.Core.List.{List, [], ◌∷◌}
use Prim.Native.Nat.{ℕ, ◌<◌}
use native.Mathlib.Omega.{arith}
use lib.ListN.{length}
use lib.Seq.{take-nil, take-take}
use borrow.Author.Tests.{le-leb}
use Rattle.std.specs.Prelude.{Result, Some, None, Ok, Err}
use Rattle.base.specs.Lists.{In, each, sort_by}
use Rattle.base.proofs.Tests.{never}
use Rattle.base.proofs.Members.{in-each}
use Rattle.rules.specs.declared.Grid.{Grid}
use Rattle.rules.specs.declared.Ranking.{Ranking}
use Rattle.rules.specs.declared.Hit.{Hit}
use Rattle.rules.specs.declared.Refusal.{Refusal}
use Rattle.rules.specs.declared.Refusal.TheVariants.{NotLawful}
use Rattle.rules.specs.Numbers.{verdict_number}
use Rattle.rules.specs.Places.{grid_lawful}
use Rattle.rules.specs.Names.{folded_text, text_refusal}
use Rattle.rules.specs.Tables.{Table}
use Rattle.rules.specs.Questions.{under, better, hit_of, ranking, ranking_refusal}
use Rattle.rules.specs.Outcomes.{Outcome, refused, ranked_outcome, ranked_came}
use Rattle.rules.specs.Promises.{Harmless, RankedPromise}
use Rattle.rules.specs.Indexes.{Index, index_of}
use Rattle.rules.proofs.Lawful.{SetParts, set_parts}
use Rattle.rules.proofs.Outcomes.{settled-refused}
use Rattle.meaning.proofs.Tables.{in-under}
use Rattle.walk.specs.declared.listing.Listing.{Listing}
use Rattle.walk.specs.Walks.{node_in}
use Rattle.walk.specs.Listings as listings
use Rattle.walk.specs.Listings.{listing_at, listing_of}
use Rattle.walk.specs.Asked.{Listed}
use Rattle.walk.proofs.Listed.{nowhere_none}
use Rattle.walk.proofs.Asked.{from_kept, text_refused, text_listed}
use Rattle.best.specs.Keys.{key_of, hit_of_key}
use Rattle.best.specs.Holds.{best_of}
use Rattle.best.proofs.Streams.{found_hits}
use Rattle.search.specs.Asked.{Searchable}
use Rattle.search.specs.Searches.{StandColumns, table_columns, Kept, Answers, listed_taken, listed_search, BestListed}
use Rattle.search.proofs.Asking.{some_asked}
use Rattle.ranked.specs.Promises.{RankedFrom}
use Rattle.ranked.proofs.Entries.{long_enough, cut_same}
use Rattle.ranked.proofs.Under.{listed_best}

-- on a lawful set, what the keys held of a text's listing come to is what its ranking does
module _ (t : Table) (g : Grid) (x : Index) (parts : SetParts t g x) (p : List ℕ) (q : Ranking) (rooms : List (List ℕ)) where
  few_stands : (h : Hit) → In h (each (hit_of t g q) (under t p)) → h.stand < 1024
  few_stands h k =
      let i = in-each (hit_of t g q) (under t p) h k in
      omega (arith, ap (λ (h : Hit). h.stand) i.2, (in-under t p i.0 i.1).0, parts.table.shaped.few)

  best_come : ranked_outcome 0 q.k (each hit_of_key (best_of q.k (each key_of (each (hit_of t g q) (under t p))))) rooms ≡ ranked_outcome 0 q.k (ranking t g p q) rooms
  best_come = rw (found_hits (each (hit_of t g q) (under t p)) few_stands q.k, take-take q.k q.k (ranking t g p q) (omega arith))

  found_exact : 0 < q.k → (l : Listing) → listing_of t g p ≡ Ok (Some l) → (o : Outcome)
      → BestListed (table_columns t) g q x.order x.entries l rooms o → o ≡ ranked_outcome 0 q.k (ranking t g p q) rooms
  found_exact some l e o w =
      let cut_all : listed_search (table_columns t) g q x.order x.entries l ≡ listed_taken (table_columns t) g q x.order x.entries l =
      rw (long_enough t g parts.table, cut_same t g parts.table) in
      subst (λ (s : Kept). Answers s q.k rooms o) (cut_all ∙ listed_best t g x parts p q some l.regions l.first e) w ∙ best_come

module _ (c : StandColumns) (g : Grid) (order entries : List ℕ) (at : listings.Listed) (q : Ranking) (found values : List ℕ) where
  abbrev rooms : List (List ℕ)
  rooms = found ∷ values ∷ []

  abbrev comes : List Hit → Outcome
  comes hits = ranked_outcome (ranking_refusal g q) q.k hits rooms

  -- only a set that is not lawful is refused 7
  refused_7 : ((t : Table) (p : List ℕ) → Listed c.east c.north c.score g order entries at t p → ⊥)
      → RankedFrom c g order entries at q rooms (ranked_came (Err NotLawful) found values)
  refused_7 never-so = record { exact = λ t p s. absurd (never-so t p s); harmless = inl refl }

  pub from_unlawful : grid_lawful g ≡ false → RankedFrom c g order entries at q rooms (ranked_came (Err NotLawful) found values)
  from_unlawful e = refused_7 (λ t p s. never _ (set_parts t g (index_of order s.nodes entries s.bits) s.lawful).table.gridded e)

  -- ---- answers

  module _ (s : Searchable g q found values) where
    nothing_comes : ranked_came (Ok 0) found values ≡ comes []
    nothing_comes = rw (s.asks.ranking, le-leb q.k (length found) s.stands_fit, le-leb q.k (length values) s.values_fit, take-nil q.k)

    pub from_nowhere : at ≡ Ok None → RankedFrom c g order entries at q rooms (ranked_came (Ok 0) found values)
    from_nowhere e =
        record {
          exact = λ t p l. nothing_comes ∙ ap (λ (i : List ℕ). comes (sort_by better (each (hit_of t g q) i))) (sym (nowhere_none t g p (sym l.listing ∙ e)));
          harmless = inr ([], nothing_comes);
        }

    harmless_of : (o : Outcome) (r : Kept) → Answers r q.k rooms o → Harmless comes (refused 7 rooms) o
    harmless_of o (Err e) w = inl w
    harmless_of o (Ok l) w = inr (each hit_of_key l, rw s.asks.ranking w)

    pub from_entries : (o : Outcome) (l : Listing) → at ≡ Ok (Some l) → BestListed c g q order entries l rooms o
        → RankedFrom c g order entries at q rooms o
    from_entries o listing e w =
        record {
          exact = λ t p l.
              let same : c ≡ table_columns t = rw (l.easts, l.norths, l.scores) in
              let x = index_of order l.nodes entries l.bits in
              rw s.asks.ranking
              (found_exact t g x (set_parts t g x l.lawful) p q rooms (some_asked g q s.asks) listing (sym l.listing ∙ e) o
              (subst (λ (c : StandColumns). BestListed c g q order entries listing rooms o) same w));
          harmless = harmless_of o (listed_search c g q order entries listing) w;
        }

-- ---- from a text

module _ (t : Table) (g : Grid) (x : Index) (p : List ℕ) (q : Ranking) (found values : List ℕ) where
  pub of_refused : (v : Result Unit Refusal) (why : Refusal) → verdict_number v ≡ text_refusal (folded_text p) → v ≡ Err why → RankedPromise t g x p q (found ∷ values ∷ []) (ranked_came (Err why) found values)
  of_refused v why e r =
      text_refused _ (λ n hits. ranked_outcome n q.k hits (found ∷ values ∷ [])) (ranking t g (folded_text p) q) (λ n. refused n (found ∷ values ∷ [])) (folded_text p) (ranking_refusal g q)
      (λ n hits some. settled-refused n _ _ _ _ _ some) why (ap verdict_number (sym r) ∙ e)

  pub of_listed : (o : Outcome) (v : Result Unit Refusal) (u : Unit) (at : listings.Listed) → verdict_number v ≡ text_refusal (folded_text p) → v ≡ Ok u → at ≡ listing_at x.nodes x.bits (node_in x.nodes (folded_text p))
      → RankedFrom (table_columns t) g x.order x.entries at q (found ∷ values ∷ []) o → RankedPromise t g x p q (found ∷ values ∷ []) o
  of_listed o v u at e fine walked w =
      from_kept _ (Listed t.east t.north t.score g x.order x.entries at) (λ n hits. ranked_outcome n q.k hits (found ∷ values ∷ [])) (λ t p. ranking t g p q) (refused 7 (found ∷ values ∷ [])) o t (folded_text p)
      (ranking_refusal g q) (sym e ∙ ap verdict_number fine) (text_listed t g x (folded_text p) at walked) w
