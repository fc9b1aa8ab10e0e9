-- What comes too late by the longer leg of its way comes too late by its length: it is passed over, and offering it changes nothing.
-- Assumes nothing.
use mathlib.Core.Path.{◌≡◌, sym, ap}
use mathlib.Core.Bool.{true}
use mathlib.Core.List.{List}
use Prim.Native.Nat.{ℕ, ◌≤◌, ◌<◌}
use native.Mathlib.Omega.{arith}
use lib.ListN.{length, take, get_or}
use Rattle.base.specs.Lists.{insert_by}
use Rattle.rules.specs.declared.Grid.{Grid}
use Rattle.rules.specs.declared.Ranking.{Ranking}
use Rattle.rules.specs.declared.Hit.{Hit}
use Rattle.rules.specs.Worth.{diagonal, value_of, bound_of}
use Rattle.rules.specs.Tables.{place_in}
use Rattle.rules.proofs.Places.{cell_some}
use Rattle.walk.specs.declared.entry.Entry.{Entry}
use Rattle.walk.proofs.Spelled.{within_facts}
use Rattle.grid.specs.declared.worth.Way.{Way}
use Rattle.grid.specs.Ways.{way_between, way_to_region, longer_leg, way_length, WayIn}
use Rattle.grid.proofs.Values.{value_order}
use Rattle.grid.proofs.Ways.{between_length, to_region_length, leg_most, between_in, to_region_in}
use Rattle.best.specs.Keys.{key_of, larger}
use Rattle.best.specs.Holds.{Falling}
use Rattle.best.proofs.Keys.{key_most}
use Rattle.search.specs.Asked.{Ready}
use Rattle.search.specs.Searches.{StandColumns, Keyable, hit_at, hit_in, bound_hit, passed_over, readable_stand, MayTake}
use Rattle.search.proofs.Asking.{asked-inside, keyable}
use Rattle.search.proofs.Reading.{stand_facts, entry_facts}
use Rattle.search.proofs.Keeping.{passed_kept, passed_below}

module _ (D : ℕ) (q : Ranking) (score : ℕ) (w : Way) (stand : ℕ) where
  -- by its leg a stand is worth no less
  leg_key : key_of (hit_at D q score (way_length w) stand) ≤ key_of (hit_at D q score (longer_leg w) stand)
  leg_key =
      key_most (hit_at D q score (way_length w) stand) (hit_at D q score (longer_leg w) stand)
      (value_order D q.weight score score (way_length w) (longer_leg w) (omega arith) (leg_most w)) (omega arith)

  pub leg_keyable : Keyable D q score (way_length w) stand → Keyable D q score (longer_leg w) stand
  leg_keyable k = record { weighs = k.weighs; near = omega (arith, leg_most w, k.near); below = k.below }

  -- what its leg passes over its way does
  pub late_passed : (k : ℕ) (held : List ℕ) → passed_over k held (key_of (hit_at D q score (longer_leg w) stand)) ≡ true
      → true ≡ passed_over k held (key_of (hit_at D q score (way_length w) stand))
  late_passed k held e = passed_below k (key_of (hit_at D q score (way_length w) stand)) held (key_of (hit_at D q score (longer_leg w) stand)) leg_key e

  -- so that offering it changes nothing
  pub late_offered : (k : ℕ) (held : List ℕ) → 0 < k → length held ≤ k → Falling held → passed_over k held (key_of (hit_at D q score (longer_leg w) stand)) ≡ true
      → held ≡ take k (insert_by larger (key_of (hit_at D q score (way_length w) stand)) held)
  late_offered k held some few falling e = passed_kept k (key_of (hit_at D q score (way_length w) stand)) held some few falling (sym (late_passed k held e))

-- ---- hits at the end of their ways

-- with an entry's bound
pub bound_is : (g : Grid) (D : ℕ) (q : Ranking) (order : List ℕ) (x : Entry) (w : Way) → D ≡ diagonal g → w ≡ way_to_region g x.region q.place
    → hit_at D q x.score (way_length w) (get_or order x.first.0 0) ≡ bound_hit g q order x
unfolding bound_of
bound_is g D q order x w e f = rw (e, f, to_region_length g x.region q.place)

-- and a stand's own
pub hit_is : (c : StandColumns) (g : Grid) (D : ℕ) (q : Ranking) (s : ℕ) (w : Way) → D ≡ diagonal g → w ≡ way_between (place_in c.east c.north s) q.place
    → hit_at D q (get_or c.score s 0) (way_length w) s ≡ hit_in c g q s
unfolding value_of
hit_is c g D q s w e f = rw (e, f, between_length (place_in c.east c.north s) q.place)

-- ---- a stand that can be read, at the end of its way

module _ (c : StandColumns) (g : Grid) (D : ℕ) (q : Ranking) (r : Ready g D q) (s : ℕ) (read : readable_stand c g s ≡ true)
    (w : Way) (is : w ≡ way_between (place_in c.east c.north s) q.place) where
  pub stand_inside : WayIn g w
  stand_inside = rw is (between_in g (place_in c.east c.north s) q.place (stand_facts c g s read).inside (asked-inside g q r.asks))

  pub stand_keyable : Keyable D q (get_or c.score s 0) (way_length w) s
  stand_keyable = let f = stand_facts c g s read in keyable g q r.asks D r.whole (get_or c.score s 0) s w f.scored f.small stand_inside

  pub stand_key : key_of (hit_at D q (get_or c.score s 0) (way_length w) s) ≡ key_of (hit_in c g q s)
  stand_key = ap key_of (hit_is c g D q s w r.whole is)

-- ---- an entry that may be taken, at the end of its way

module _ (g : Grid) (D : ℕ) (q : Ranking) (r : Ready g D q) (order : List ℕ) (x : Entry) (m : MayTake order x) (w : Way) (is : w ≡ way_to_region g x.region q.place) where
  pub entry_inside : WayIn g w
  entry_inside = rw is (to_region_in g x.region q.place (cell_some g r.asks.grid) (within_facts (length order) x m.inside).0 (asked-inside g q r.asks))

  pub entry_keyable : Keyable D q x.score (way_length w) (get_or order x.first.0 0)
  entry_keyable = let f = entry_facts order x m.sound in keyable g q r.asks D r.whole x.score (get_or order x.first.0 0) w f.scored f.small entry_inside

  pub entry_bound : (k : ℕ) (held : List ℕ) → passed_over k held (key_of (hit_at D q x.score (way_length w) (get_or order x.first.0 0))) ≡ passed_over k held (key_of (bound_hit g q order x))
  entry_bound k held = ap (λ (h : Hit). passed_over k held (key_of h)) (bound_is g D q order x w r.whole is)
