-- At a lawful set: each entry of a text is sound, so that it may be taken or passed over.
-- Assumes nothing.
use mathlib.Core.Path.{◌≡◌, refl, sym, ap, ◌∙◌, subst}
use mathlib.Core.Logic.{inl}
use mathlib.Core.Bool.{true}
use mathlib.Core.List.{List, ◌∷◌}
use Prim.Native.Nat.{ℕ, suc, ◌-◌, ◌≤◌, ◌<◌}
use native.Mathlib.Omega.{arith}
use lib.ListN.{length, take, drop, get_or}
use lib.Seq.{slice, slice-cons, take_all}
use borrow.Author.Tests.{le-leb}
use Rattle.base.specs.Lists.{In, first_of, begins}
use Rattle.base.proofs.Members.{in-at, drop-take}
use Rattle.base.proofs.Begins.{begins-part, begins-length}
use Rattle.base.proofs.Pairs.{Less, less_first, pairs_keep}
use Rattle.rules.specs.declared.Grid.{Grid}
use Rattle.rules.specs.declared.Ranking.{Ranking}
use Rattle.rules.specs.Worth.{bound_of}
use Rattle.rules.specs.Tables.{Table, stands, place_of, score_of, LawfulTable}
use Rattle.rules.specs.Questions.{under, region_of_stand, in_region, hit_of}
use Rattle.rules.specs.Indexes.{order_words, entries_of}
use Rattle.rules.specs.Indexes as indexes
use Rattle.grid.proofs.Values.{value_within_bound}
use Rattle.meaning.specs.Meaning.{StandUnder, no_entry, entry_at}
use Rattle.meaning.proofs.Listing.{under_rises, order_means, stands_in, in_region_lem}
use Rattle.meaning.proofs.Entries.{entries_mean}
use Rattle.walk.specs.Entries.{as_read}
use Rattle.best.proofs.Keys.{key_most}
use Rattle.search.specs.Searches.{table_columns, readable_stand, bound_hit, as_long, cut}
use Rattle.search.proofs.Reading.{stand_read}
use Rattle.ranked.proofs.Offers.{Sound}

module _ (t : Table) (g : Grid) (l : LawfulTable t g) where
  pub stand_seen : (i : ℕ) → i < stands t → readable_stand (table_columns t) g i ≡ true
  stand_seen i h =
      let s = l.shaped in
      stand_read (table_columns t) g i
      (record {
        small = omega (arith, s.few);
        has_east = omega (arith, s.easts);
        has_north = omega (arith, s.norths);
        has_score = h;
        scored = l.scored i h;
        inside = l.placed i h;
      })

  -- the columns have one length
  pub long_enough : as_long (table_columns t) ≡ true
  unfolding as_long
  long_enough =
      let s = l.shaped in
      rw (le-leb (length t.east) (length t.north) (omega (arith, s.easts, s.norths)), le-leb (length t.east) (length t.score) (omega (arith, s.easts)))

  pub cut_same : cut (table_columns t) ≡ table_columns t
  cut_same =
      let s = l.shaped in
      rw (take_all (length t.east) t.north (omega (arith, s.easts, s.norths)), take_all (length t.east) t.score (omega (arith, s.easts)))

  -- no stand is worth more than the bound of its region with no smaller a score
  within_bound : (q : Ranking) (i score : ℕ) → i < stands t → score_of t i ≤ score → (hit_of t g q i).value ≤ bound_of g q.weight score (region_of_stand g t i) q.place
  unfolding region_of_stand
  within_bound q i score h k = value_within_bound g q.weight (score_of t i) score (place_of t i) q.place l.gridded (l.placed i h) k

  -- an entry with what the rules say of it: its stands under p stand in the order's words from its first place on
  module _ (p words order : List ℕ) (whole : length words ≡ stands t) (written : begins words order ≡ true) (q : Ranking) (e : indexes.Entry)
      (attained : (i : ℕ) × StandUnder t p i × (region_of_stand g t i ≡ e.region) × (score_of t i ≡ e.score))
      (largest : (i : ℕ) → StandUnder t p i → region_of_stand g t i ≡ e.region → score_of t i ≤ e.score)
      (bounds : (e.first < e.past) × (e.past ≤ stands t))
      (places : take (e.past - e.first) (drop e.first words) ≡ stands_in t g p e.region) where
    listed : slice e.first e.past order ≡ stands_in t g p e.region
    listed =
        ap (drop e.first) (begins-part words order e.past written (omega arith))
        ∙ drop-take e.first e.past words
        ∙ places

    -- the first of them stands at the entry's first place, and is the least
    first_is : stands_in t g p e.region ≡ get_or order e.first 0 ∷ slice (suc e.first) e.past order
    first_is = sym listed ∙ slice-cons e.first e.past order 0 bounds.0 (omega (arith, begins-length words order written))

    first_least : (i : ℕ) → In i (stands_in t g p e.region) → get_or order e.first 0 ≤ i
    first_least i h =
        let least = less_first (stands_in t g p e.region) (pairs_keep Less (in_region g t e.region) (under t p) (under_rises t p)) i h in
        omega (arith, ap first_of first_is)

    first_there : In (get_or order e.first 0) (stands_in t g p e.region)
    first_there = subst (λ (s : List ℕ). In (get_or order e.first 0) s) (sym first_is) (inl refl)

    stand_of : (i : ℕ) → In i (stands_in t g p e.region) → i < stands t
    stand_of i h = (in_region_lem t g p e.region i h).0.stand

    bounded : (i : ℕ) → In i (stands_in t g p e.region) → (hit_of t g q i).value ≤ bound_of g q.weight e.score e.region q.place
    bounded i h =
        let u = in_region_lem t g p e.region i h in
        rw u.1 at (within_bound q i e.score u.0.stand (largest i u.0 u.1))

    of_entry : Sound (table_columns t) g q order (stands_in t g p e.region) (as_read e)
    of_entry =
        record {
          facts = record {
            scored = omega (arith, attained.3, l.scored attained.0 attained.1.stand);
            some = bounds.0;
            small = omega (arith, stand_of (get_or order e.first 0) first_there, l.shaped.few);
          };
          listed = listed;
          readable = λ i h. stand_seen i (stand_of i h);
          covered = λ i h. key_most (hit_of t g q i) (bound_hit g q order (as_read e)) (bounded i h) (first_least i h);
        }

  -- each of a text's entries
  pub entry_sound : (order : List ℕ) → begins (order_words t g) order ≡ true → (q : Ranking) (p : List ℕ) (e : indexes.Entry) → In e (entries_of t g p)
      → Sound (table_columns t) g q order (stands_in t g p e.region) (as_read e)
  entry_sound order written q p e h =
      let m = entries_mean t g l p in
      let s = in-at no_entry e (entries_of t g p) h in
      subst (λ (e : indexes.Entry). Sound (table_columns t) g q order (stands_in t g p e.region) (as_read e)) s.2
      (of_entry p (order_words t g) order (order_means t g l).whole written q (entry_at t g p s.0)
      (m.attained s.0 s.1) (m.largest s.0 s.1) (m.bounds s.0 s.1) (m.places s.0 s.1))
