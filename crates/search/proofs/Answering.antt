-- What the search comes to: broken words are refused, and the keys held, written to the rooms, are what their hits come to.
-- Assumes nothing.
use mathlib.Core.Path.{◌≡◌, sym}
use mathlib.Core.Logic.{◌⊎◌, inl, inr}
use mathlib.Core.Bool.{and-false}
use mathlib.Core.List.{List, [], ◌∷◌}
use Prim.Native.Nat.{ℕ, ◌≤◌, ◌<◌}
use native.Mathlib.Omega.{arith}
use lib.ListN.{length, take}
use lib.IntN.{ℤ}
use lib.Dec.{leb}
use lib.Seq.{take_all}
use Rattle.std.specs.Prelude.{Result, Ok, Err}
use borrow.Author.Tests.{le-leb, lt-leb}
use Rattle.base.specs.Lists.{each}
use Rattle.base.proofs.Members.{each-each, length-each}
use Rattle.rules.specs.declared.Broken.{Broken}
use Rattle.rules.specs.declared.Grid.{Grid}
use Rattle.rules.specs.declared.Ranking.{Ranking}
use Rattle.rules.specs.declared.Refusal.TheVariants.{NotLawful}
use Rattle.rules.specs.Outcomes.{ranked_outcome, ranked_came}
use Rattle.walk.specs.declared.listing.Listing.{Listing}
use Rattle.best.specs.Keys.{hit_of_key}
use Rattle.search.specs.Searches.{StandColumns, stand_columns, kept_of, Written, as_long, cut, listed_on, listed_taken, listed_search, BestListed, Keeps}

-- the keys l, of which there are at most k, written to rooms of k places
held_come : (k : ℕ) (l found values found' values' : List ℕ) → length l ≤ k → k ≤ length found → k ≤ length values → Written l found values found' values'
    → ranked_came (Ok (length l)) found' values' ≡ ranked_outcome 0 k (each hit_of_key l) (found ∷ values ∷ [])
held_come k l found values found' values' few f v w =
    let whole : take k (each hit_of_key l) ≡ each hit_of_key l = take_all k (each hit_of_key l) (omega (arith, length-each hit_of_key l)) in
    rw (
      le-leb k (length found) f,
      le-leb k (length values) v,
      whole,
      length-each hit_of_key l,
      each-each (λ h. h.stand) hit_of_key l,
      each-each (λ h. h.value) hit_of_key l,
      w.stands,
      w.worths,
    )

module _ (c : StandColumns) (g : Grid) (q : Ranking) (order entries : List ℕ) (l : Listing) (found values : List ℕ) where
  abbrev rooms : List (List ℕ)
  rooms = found ∷ values ∷ []

  -- a column that is too short
  pub short_column : (length c.north < length c.east) ⊎ (length c.score < length c.east) → BestListed c g q order entries l rooms (ranked_came (Err NotLawful) found values)
  unfolding as_long
  short_column (inl h) = rw (lt-leb (length c.east) (length c.north) h)
  short_column (inr h) = rw (lt-leb (length c.east) (length c.score) h, and-false (leb (length c.east) (length c.north)))

  -- a search by the columns that were cut, with nothing held before
  module _ (long-north : length c.east ≤ length c.north) (long-score : length c.east ≤ length c.score) (north : List ℤ) (score none held : List ℕ) (r : Result Unit Broken)
      (norths : north ≡ take (length c.east) c.north) (scores : score ≡ take (length c.east) c.score) (nothing : none ≡ [])
      (w : Keeps (listed_on (stand_columns c.east north score) g q order entries l none) q.k held r) where
    taken : listed_search c g q order entries l ≡ kept_of r held
    unfolding as_long
    taken =
        let cut_is : Keeps (listed_taken (cut c) g q order entries l) q.k held r = rw (norths, scores, nothing) at w in
        rw (le-leb (length c.east) (length c.north) long-north, le-leb (length c.east) (length c.score) long-score) (sym cut_is.is)

    pub found_best : q.k ≤ length found → q.k ≤ length values → (u : Unit) (found' values' : List ℕ) → r ≡ Ok u → Written held found values found' values'
        → BestListed c g q order entries l rooms (ranked_came (Ok (length held)) found' values')
    found_best f v u found' values' e t = rw (taken, e) (held_come q.k held found values found' values' w.few f v t)
