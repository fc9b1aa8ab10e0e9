-- What the regions under a node hold, its words of bits and its entries: by the columns they are the definitions'.
-- Assumes nothing.
use mathlib.Core.Path.{◌≡◌, sym, ap, ◌∙◌}
use mathlib.Core.Bool.{true, not}
use mathlib.Core.List.{List, ◌∷◌}
use Prim.Native.Nat.{ℕ, ◌+◌, ◌-◌, ◌≤◌, ◌<◌}
use native.Mathlib.Omega.{arith}
use lib.Dec.{eqb}
use borrow.Author.Tests.{not-true}
use lib.ListN.{length, length-append}
use Rattle.base.specs.Lists.{up_to, keep, each_list, first_of, is_empty, sort_by, position_in, In}
use Rattle.base.specs.Bits.{word_of}
use Rattle.base.proofs.Members.{first_rest, keep-in, keep_same, each_same, each_list_same}
use Rattle.base.proofs.Runs.{in_from}
use Rattle.base.proofs.Words.{word_same}
use Rattle.rules.specs.declared.Grid.{Grid}
use Rattle.rules.specs.Places.{regions}
use Rattle.rules.specs.Tables.{Table, stands}
use Rattle.rules.specs.Questions.{under, region_of_stand, in_region}
use Rattle.rules.specs.Indexes.{order_words, occupied, regions_under, entry_of, ahead, entries_of}
use Rattle.meaning.proofs.Regions.{before, region_place}
use Rattle.node.specs.Columns.{at, span, stands_in, held_among, regions_among, bits_among, entry_among, entries_among}
use Rattle.node.specs.Visits.{place_at, places_at}
use Rattle.words.specs.Over.{region_order, order_of}
use Rattle.words.proofs.Orders.{firsts, firsts_below}
use Rattle.node.proofs.Placing.{regions_are, place_at_lem}
use Rattle.index.specs.Columns.{regions_of}
use Rattle.index.proofs.ByStand.{regions-length, regions-at}

module _ (g : Grid) (t : Table) where
  abbrev region : List ℕ
  region = regions_of g t

  -- ---- the stand order

  stands_same : (r : ℕ) (s : List ℕ) → ((i : ℕ) → In i s → i < stands t) → stands_in region r s ≡ keep (in_region g t r) s
  unfolding stands_in
  stands_same r s h = keep_same (λ i. eqb (at region i) r) (in_region g t r) s (λ i u. ap (λ (x : ℕ). eqb x r) (regions-at g t i (h i u)))

  before_stand : (r i : ℕ) → i ≤ stands t → stands_in region r (up_to i) ≡ keep (in_region g t r) (up_to i)
  before_stand r i h = stands_same r (up_to i) (λ k u. omega (arith, in_from 0 i k u))

  order_region : (r : ℕ) → region_order region r ≡ keep (in_region g t r) (up_to (stands t))
  unfolding region_order
  order_region r = ap (λ (n : ℕ). stands_in region r (up_to n)) (regions-length g t) ∙ before_stand r (stands t) (omega arith)

  pub order_words_lem : order_of region ≡ order_words t g
  unfolding order_of
  order_words_lem = each_list_same (region_order region) (λ r. keep (in_region g t r) (up_to (stands t))) (up_to regions) (λ r h. order_region r)

  -- ---- the node whose text is p and whose stands are i to e - 1

  module _ (p : List ℕ) (i e : ℕ) (fits : i ≤ e) (inside : e ≤ stands t) (run : under t p ≡ span i e) where
    stands_here : (r : ℕ) → stands_in region r (span i e) ≡ keep (in_region g t r) (under t p)
    stands_here r = stands_same r (span i e) (λ k u. omega (arith, in_from i (e - i) k u)) ∙ ap (keep (in_region g t r)) (sym run)

    held_here : (r : ℕ) → held_among region (span i e) r ≡ occupied t g p r
    unfolding held_among
    held_here r = ap (λ (l : List ℕ). not (is_empty l)) (stands_here r)

    pub bits_here : bits_among region (span i e) ≡ word_of (occupied t g p) 0 64
    bits_here = word_same (held_among region (span i e)) (occupied t g p) 0 0 64 (λ k h. held_here (0 + k))

    pub regions_here : regions_among region (span i e) ≡ regions_under t g p
    regions_here = keep_same (held_among region (span i e)) (occupied t g p) (up_to regions) (λ r u. held_here r)

    -- where a region's stands begin in the order
    first_here : (r x : ℕ) (s : List ℕ) → r < regions → keep (in_region g t r) (under t p) ≡ x ∷ s → place_at region i r ≡ position_in x (order_words t g)
    unfolding place_at before firsts
    first_here r x s lt q =
        let those : List ℕ = each_list (λ r. keep (in_region g t r) (up_to (stands t))) (up_to r) in
        omega (
          arith,
          firsts_below region r,
          ap length (each_list_same (region_order region) (λ r. keep (in_region g t r) (up_to (stands t))) (up_to r) (λ r h. order_region r)),
          ap length (before_stand r i (omega arith)),
          region_place (region_of_stand g t) (stands t) regions i (e - i) r (omega arith) lt x s (ap (keep (in_region g t r)) (sym run) ∙ q),
          length-append those (keep (in_region g t r) (up_to i)),
        )

    entry_here : (r : ℕ) → r < regions → occupied t g p r ≡ true → entry_among region t.score (places_at region i) (span i e) r ≡ entry_of t g p r
    unfolding entry_among
    entry_here r lt o =
        let some = first_rest (keep (in_region g t r) (under t p)) (not-true _ o) in
        rw (stands_here r, place_at_lem region i r (omega (arith, regions_are)), first_here r (first_of (keep (in_region g t r) (under t p))) _ lt some.0)

    pub entries_here : entries_among region t.score (places_at region i) (span i e) ≡ entries_of t g p
    unfolding entries_among
    entries_here =
        rw regions_here
        (ap (sort_by ahead) (each_same _ (entry_of t g p) (regions_under t g p) (λ r u. let k = keep-in (occupied t g p) (up_to regions) r u in entry_here r (omega (arith, in_from 0 regions r k.0)) k.1)))
