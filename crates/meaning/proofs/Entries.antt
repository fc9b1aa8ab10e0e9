-- A node's entries mean what the rules say: one for each region that holds a stand under its text, with the largest
-- score there and the places of its stands in the order. Assumes nothing.
use mathlib.Core.Path.{◌≡◌, refl, sym, ap, ◌∙◌, subst}
use mathlib.Core.Bool.{true}
use mathlib.Core.List.{List}
use Prim.Native.Nat.{ℕ, ◌+◌, ◌-◌, ◌≤◌, ◌<◌, min}
use native.Mathlib.Omega.{arith}
use lib.ListN.{length, take, drop, length-take, length-drop}
use Rattle.base.specs.Lists.{In, up_to, keep, each}
use Rattle.base.proofs.Members.{get_or_in, in-at, in-keep, keep-in, in-each, each_in, in_some, some_in, some_length}
use Rattle.base.proofs.Runs.{in_from, from_in}
use Rattle.base.proofs.Sums.{in-largest, largest-in}
use Rattle.base.proofs.Shuffles.{shuffle_sym, shuffle_in, sort_shuffle}
use Rattle.base.proofs.Sorts.{Wins, sort_wins}
use Rattle.base.proofs.Pairs.{pairs_keep, pairs_at, Distinct, distinct_once, distinct_sort, Less, less_from, distinct_less}
use Rattle.rules.specs.declared.Grid.{Grid}
use Rattle.rules.specs.Places.{regions}
use Rattle.rules.specs.Tables.{Table, stands, score_of, LawfulTable}
use Rattle.rules.specs.Questions.{under, region_of_stand, in_region}
use Rattle.rules.specs.Indexes.{order_words, occupied, regions_under, Entry, entry_of, ahead, entries_of}
use Rattle.meaning.specs.Meaning.{StandUnder, no_entry, entry_at, EntriesMean}
use Rattle.meaning.proofs.Regions.{entry_slice, region_small}
use Rattle.meaning.proofs.Listing.{in_region_lem, region_in, stands_in, held_occupied, order_means}

module _ (t : Table) (g : Grid) (l : LawfulTable t g) (p : List ℕ) where
  abbrev entries : List Entry
  entries = entries_of t g p

  -- as they come by region, before they are sorted
  abbrev unsorted : List Entry
  unsorted = each (entry_of t g p) (regions_under t g p)

  -- ---- which entries there are

  -- an entry is that of a region that holds a stand
  pub record OfRegion (e : Entry) : Type 0 where
    pub small : e.region < regions
    pub held : occupied t g p e.region ≡ true
    pub same : e ≡ entry_of t g p e.region

  pub entry_own : (e : Entry) → In e entries → OfRegion e
  entry_own e h =
      let s = in-each (entry_of t g p) (regions_under t g p) e (shuffle_in (sort_shuffle ahead unsorted) e h) in
      let k = keep-in (occupied t g p) (up_to regions) s.0 s.1 in
      rw s.2 (record { small = omega (arith, in_from 0 regions s.0 k.0); held = k.1; same = refl })

  -- and each such region has one
  pub entry_there : (r : ℕ) → In r (regions_under t g p) → In (entry_of t g p r) entries
  entry_there r h =
      shuffle_in (shuffle_sym (sort_shuffle ahead unsorted)) (entry_of t g p r) (each_in (entry_of t g p) (regions_under t g p) r h)

  entry_for : (i : ℕ) → StandUnder t p i → (a : ℕ) × (a < length entries) × (entry_at t g p a ≡ entry_of t g p (region_of_stand g t i))
  entry_for i u =
      let r = region_of_stand g t i in
      let small = from_in 0 regions r (omega arith) (omega (arith, region_small t g l i u.stand)) in
      in-at no_entry (entry_of t g p r) entries (entry_there r (in-keep (occupied t g p) (up_to regions) r small (held_occupied t g p r (i, u, refl))))

  regions_differ : Distinct (λ e. e.region) unsorted
  regions_differ =
      distinct_less (λ e. e.region) (entry_of t g p) (regions_under t g p) (λ r. refl) (pairs_keep Less (occupied t g p) (up_to regions) (less_from 0 regions))

  -- ---- what is in the entry of region r

  module _ (r : ℕ) (q : occupied t g p r ≡ true) where
    attained : (i : ℕ) × StandUnder t p i × (region_of_stand g t i ≡ r) × (score_of t i ≡ (entry_of t g p r).score)
    attained =
        let scores = each (score_of t) (stands_in t g p r) in
        let some = some_in (stands_in t g p r) q in
        let best = largest-in scores (in_some scores (score_of t some.0) (each_in (score_of t) (stands_in t g p r) some.0 some.1)) in
        let s = in-each (score_of t) (stands_in t g p r) (entry_of t g p r).score best in
        let u = in_region_lem t g p r s.0 s.1 in
        (s.0, u.0, u.1, sym s.2)

    outscored : (i : ℕ) → StandUnder t p i → region_of_stand g t i ≡ r → score_of t i ≤ (entry_of t g p r).score
    outscored i u e = in-largest (each (score_of t) (stands_in t g p r)) (score_of t i) (each_in (score_of t) (stands_in t g p r) i (region_in t g p r i u e))

    -- the places are as many as the stands, so the last of them is in the order
    bounded : r < regions → ((entry_of t g p r).first < (entry_of t g p r).past) × ((entry_of t g p r).past ≤ stands t)
    bounded h =
        let at = (entry_of t g p r).first in
        let many = length (stands_in t g p r) in
        let O = order_words t g in
        let size : many ≡ min (at + many - at) (length O - at) =
        sym (ap length (entry_slice t g l.ordered p r h q)) ∙ length-take (at + many - at) (drop at O) ∙ ap (min (at + many - at)) (length-drop at O) in
        (omega (arith, some_length (stands_in t g p r) q), omega (arith, some_length (stands_in t g p r) q, (order_means t g l).whole))

  -- what holds of the entry of each region that holds a stand holds of each entry
  of_each : (P : Entry → Type 0) → ((r : ℕ) → occupied t g p r ≡ true → r < regions → P (entry_of t g p r)) → (a : ℕ) → a < length entries → P (entry_at t g p a)
  of_each P h a k =
      let e = entry_at t g p a in
      let s = entry_own e (get_or_in no_entry entries a k) in
      subst P (sym s.same) (h e.region s.held s.small)

  pub entries_mean : EntriesMean t g p
  entries_mean =
      record {
        every = λ i u. let s = entry_for i u in (s.0, s.1, ap (λ (e : Entry). e.region) s.2);
        once = distinct_once (λ e. e.region) no_entry entries (distinct_sort (λ e. e.region) ahead unsorted regions_differ);
        attained = of_each (λ e. (i : ℕ) × StandUnder t p i × (region_of_stand g t i ≡ e.region) × (score_of t i ≡ e.score)) (λ r q h. attained r q);
        largest = of_each (λ e. (i : ℕ) → StandUnder t p i → region_of_stand g t i ≡ e.region → score_of t i ≤ e.score) (λ r q h. outscored r q);
        bounds = of_each (λ e. (e.first < e.past) × (e.past ≤ stands t)) bounded;
        places =
            of_each (λ e. take (e.past - e.first) (drop e.first (order_words t g)) ≡ keep (in_region g t e.region) (under t p))
            (λ r q h. entry_slice t g l.ordered p r h q);
        in_turn =
            pairs_at (Wins (λ e. e.score) (λ e. e.region)) no_entry entries
            (sort_wins (λ e. e.score) (λ e. e.region) unsorted regions_differ);
      }
