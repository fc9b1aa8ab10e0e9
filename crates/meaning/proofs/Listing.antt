-- The stands under a text, and stands listed by region, then by number: the stand order and a range are such lists.
-- Assumes nothing.
use mathlib.Core.Path.{◌≡◌, ap, ◌∙◌}
use mathlib.Core.Logic.{⊎_elim}
use mathlib.Core.Bool.{Bool, true}
use mathlib.Core.List.{List}
use Prim.Native.Nat.{ℕ, ◌<◌}
use native.Mathlib.Omega.{arith}
use borrow.Author.Tests.{eqb-true, eq-eqb}
use Rattle.base.specs.Lists.{up_to, keep, begins, In, Pairwise}
use Rattle.base.proofs.Members.{in-keep, keep-in, in_some, some_in}
use Rattle.base.proofs.Runs.{in_from, from_in, length_from}
use Rattle.base.proofs.Shuffles.{shuffle_sym, shuffle_length, shuffle_in}
use Rattle.base.proofs.Pairs.{pairs_keep, pairs_at, pairs_weaken, distinct_once, Less, less_from, parts_pairs}
use Rattle.rules.specs.declared.Grid.{Grid}
use Rattle.rules.specs.declared.Rect.{Rect}
use Rattle.rules.specs.Places.{regions, in_rect}
use Rattle.rules.specs.Tables.{Table, stands, name_of, place_of, LawfulTable}
use Rattle.rules.specs.Questions.{under, region_of_stand, in_region, by_region}
use Rattle.rules.specs.Indexes.{occupied}
use Rattle.meaning.specs.Meaning.{StandUnder, UnderMeans, RegionFirst, ListedByRegion, OrderMeans, RangeMeans, RegionHeld}
use Rattle.meaning.proofs.Tables.{under-in, in-under}
use Rattle.meaning.proofs.Regions.{by_region_shuffle}

-- ---- the stands under a text

module _ (t : Table) (p : List ℕ) where
  pub under_rises : Pairwise Less (under t p)
  unfolding under
  under_rises = pairs_keep Less (λ i. begins p (name_of t i)) (up_to (stands t)) (less_from 0 (stands t))

  pub stand-under : (i : ℕ) → In i (under t p) → StandUnder t p i
  stand-under i h = let s = in-under t p i h in record { stand = s.0; named = s.1 }

  pub under-stand : (i : ℕ) → StandUnder t p i → In i (under t p)
  under-stand i u = under-in t p i u.stand u.named

  pub under_means : UnderMeans t p
  under_means = record { every = under-stand; only = stand-under; in_turn = pairs_at Less 0 (under t p) under_rises }

-- ---- stands by region

module _ (t : Table) (g : Grid) (l : LawfulTable t g) where
  -- rising stands put by region
  listed : (s : List ℕ) (wanted : ℕ → Type 0) → Pairwise Less s → ((i : ℕ) → In i s → i < stands t)
      → ((i : ℕ) → wanted i → In i s) → ((i : ℕ) → In i s → wanted i) → ListedByRegion g t wanted (by_region g t s)
  listed s wanted up small to from =
      let turned : Pairwise (RegionFirst g t) (by_region g t s) = parts_pairs (region_of_stand g t) s up 0 regions in
      let apart : (x y : ℕ) → RegionFirst g t x y → x ≡ y → ⊥ = λ x y. ⊎_elim (λ h e. omega (arith, ap (region_of_stand g t) e)) (λ h e. omega arith) in
      record {
        every = λ i w. shuffle_in (shuffle_sym (by_region_shuffle t g l s small)) i (to i w);
        only = λ i h. from i (shuffle_in (by_region_shuffle t g l s small) i h);
        once = distinct_once (λ x. x) 0 (by_region g t s) (pairs_weaken (RegionFirst g t) (λ x y. x ≡ y → ⊥) (by_region g t s) (λ x y u v. apart x y) turned);
        in_turn = pairs_at (RegionFirst g t) 0 (by_region g t s) turned;
      }

  pub order_means : OrderMeans t g
  order_means =
      let below : (i : ℕ) → In i (up_to (stands t)) → i < stands t = λ i h. omega (arith, in_from 0 (stands t) i h) in
      record {
        listed = listed (up_to (stands t)) (λ i. i < stands t) (less_from 0 (stands t)) below (λ i h. from_in 0 (stands t) i (omega arith) (omega arith)) below;
        whole = shuffle_length (by_region_shuffle t g l (up_to (stands t)) below) ∙ length_from 0 (stands t);
      }

  pub range_means : (p : List ℕ) (r : Rect) → RangeMeans t g p r
  range_means p r =
      let inside : ℕ → Bool = λ i. in_rect r (place_of t i) in
      let from : (i : ℕ) → In i (keep inside (under t p)) → StandUnder t p i × (in_rect r (place_of t i) ≡ true) =
      λ i h. let s = keep-in inside (under t p) i h in (stand-under t p i s.0, s.1) in
      listed (keep inside (under t p)) (λ i. StandUnder t p i × (in_rect r (place_of t i) ≡ true)) (pairs_keep Less inside (under t p) (under_rises t p))
      (λ i h. (from i h).0.stand) (λ i w. in-keep inside (under t p) i (under-stand t p i w.0) w.1) from

-- ---- the stands of one region under a text

module _ (t : Table) (g : Grid) (p : List ℕ) where
  abbrev pub stands_in : ℕ → List ℕ
  stands_in r = keep (in_region g t r) (under t p)

  pub in_region_lem : (r i : ℕ) → In i (stands_in r) → StandUnder t p i × (region_of_stand g t i ≡ r)
  in_region_lem r i h = let s = keep-in (in_region g t r) (under t p) i h in (stand-under t p i s.0, eqb-true (region_of_stand g t i) r s.1)

  pub region_in : (r i : ℕ) → StandUnder t p i → region_of_stand g t i ≡ r → In i (stands_in r)
  region_in r i u e = in-keep (in_region g t r) (under t p) i (under-stand t p i u) (eq-eqb (region_of_stand g t i) r e)

  pub occupied_held : (r : ℕ) → occupied t g p r ≡ true → RegionHeld t g p r
  occupied_held r q =
      let s = some_in (stands_in r) q in
      let u = in_region_lem r s.0 s.1 in
      (s.0, u.0, u.1)

  pub held_occupied : (r : ℕ) → RegionHeld t g p r → occupied t g p r ≡ true
  held_occupied r (i, u, e) = in_some (stands_in r) i (region_in r i u e)
