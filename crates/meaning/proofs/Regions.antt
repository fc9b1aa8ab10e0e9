-- The stands of one region under a text are a run of the stand order, and a range is gathered region by region.
-- Assumes nothing.
use mathlib.Core.Path.{◌≡◌, refl, sym, ap, ◌∙◌, subst}
use mathlib.Core.Logic.{inl, ⊎_elim}
use mathlib.Core.Bool.{Bool, true}
use mathlib.Core.List.{List, ◌∷◌, ◌++◌, append_assoc}
use Prim.Native.Nat.{ℕ, suc, ◌+◌, ◌-◌, ◌≤◌, ◌<◌}
use native.Mathlib.Nat.{zero-add}
use native.Mathlib.Omega.{arith}
use lib.Dec.{eqb}
use lib.ListN.{length, take, drop}
use lib.Seq.{take-append_seam, drop-append_seam}
use borrow.Author.Tests.{eqb-true, not-true}
use Rattle.base.specs.Lists.{from_on, up_to, keep, each_list, first_of, is_empty, position_in, In}
use Rattle.base.proofs.Members.{in_either, keep-in, keep_append, position_seam, in-each_list, keep_comm, each_list-keep, each_list_same, each_list-append, empty_of, first_rest}
use Rattle.base.proofs.Runs.{in_from, from_split, up_to_split}
use Rattle.base.proofs.Shuffles.{Shuffle, part, parts_shuffle}
use Rattle.rules.specs.declared.Grid.{Grid}
use Rattle.rules.specs.declared.Rect.{Rect}
use Rattle.rules.specs.Places.{in_rect, regions}
use Rattle.rules.specs.Tables.{Table, stands, place_of, Ordered, LawfulTable}
use Rattle.rules.specs.Questions.{under, region_of_stand, in_region, by_region, range_list}
use Rattle.rules.specs.Indexes.{order_words, occupied, regions_under, entry_of}
use Rattle.rules.proofs.Places.{region_among}
use Rattle.meaning.proofs.Tables.{under-run, under_fits}

-- ---- n stands put by region ρ, of which there are m; a run of c stands from f on, and those of it in region r

module _ (ρ : ℕ → ℕ) (n m : ℕ) where
  abbrev pub ordered : List ℕ
  ordered = each_list (λ r. part ρ r (up_to n)) (up_to m)

  module _ (f c r : ℕ) (fits : f + c ≤ n) (lt : r < m) where
    -- what stands before them in the order: the smaller regions, and of region r the smaller numbers
    unfoldable pub before : List ℕ
    before = each_list (λ r. part ρ r (up_to n)) (up_to r) ++ part ρ r (up_to f)

    after : List ℕ
    after = part ρ r (from_on (f + c) (n - (f + c))) ++ each_list (λ r. part ρ r (up_to n)) (from_on (suc r) (m - suc r))

    part_thirds : part ρ r (up_to n) ≡ part ρ r (up_to f) ++ (part ρ r (from_on f c) ++ part ρ r (from_on (f + c) (n - (f + c))))
    part_thirds =
        let rest = n - (f + c) in
        let e : n ≡ f + (c + rest) = omega arith in
        ap (λ k. part ρ r (up_to k)) e
        ∙ rw (from_split 0 f (c + rest), zero-add f, from_split f c rest, keep_append (λ i. eqb (ρ i) r) (up_to f), keep_append (λ i. eqb (ρ i) r) (from_on f c))

    split : ordered ≡ before ++ (part ρ r (from_on f c) ++ after)
    unfolding before after
    split =
        ap (each_list (λ r. part ρ r (up_to n))) (up_to_split r m lt)
        ∙ each_list-append (λ r. part ρ r (up_to n)) (up_to r) (r ∷ from_on (suc r) (m - suc r))
        ∙ ap (λ (l : List ℕ). each_list (λ r. part ρ r (up_to n)) (up_to r) ++ (l ++ each_list (λ r. part ρ r (up_to n)) (from_on (suc r) (m - suc r)))) part_thirds
        ∙ simp append_assoc

    -- none of region r from f on stands before
    none_before : (x : ℕ) → eqb (ρ x) r ≡ true → f ≤ x → In x before → ⊥
    unfolding before
    none_before x q h k =
        ⊎_elim
        (λ u.
        let w = in-each_list (λ r. part ρ r (up_to n)) (up_to r) x u in
        let v = keep-in (λ i. eqb (ρ i) w.0) (up_to n) x w.2 in
        omega (arith, in_from 0 r w.0 w.1, eqb-true (ρ x) w.0 v.1, eqb-true (ρ x) r q))
        (λ u. omega (arith, in_from 0 f x (keep-in (λ i. eqb (ρ i) r) (up_to f) x u).0))
        (in_either x (each_list (λ r. part ρ r (up_to n)) (up_to r)) (part ρ r (up_to f)) k)

    -- so they are a run of the order that starts where the first of them stands
    pub region_place : (x : ℕ) (s : List ℕ) → part ρ r (from_on f c) ≡ x ∷ s → position_in x ordered ≡ length before
    region_place x s e =
        let v = keep-in (λ i. eqb (ρ i) r) (from_on f c) x (subst (λ (l : List ℕ). In x l) (sym e) (inl refl)) in
        ap (position_in x) (split ∙ ap (λ (l : List ℕ). before ++ (l ++ after)) e)
        ∙ position_seam x before (s ++ after) (none_before x v.1 (in_from f c x v.0).0)

    region_slice : (x : ℕ) (s : List ℕ) → part ρ r (from_on f c) ≡ x ∷ s → take (length (part ρ r (from_on f c))) (drop (position_in x ordered) ordered) ≡ part ρ r (from_on f c)
    region_slice x s e =
        let here = part ρ r (from_on f c) in
        ap (λ (k : ℕ). take (length here) (drop k ordered)) (region_place x s e)
        ∙ ap (λ (l : List ℕ). take (length here) (drop (length before) l)) split
        ∙ rw (drop-append_seam before (here ++ after), take-append_seam here after)

-- ---- at a table

module _ (t : Table) (g : Grid) (o : Ordered t) (p : List ℕ) where
  -- the stands that an entry names, read from the order
  pub entry_slice : (r : ℕ) → r < regions → occupied t g p r ≡ true
      → take ((entry_of t g p r).past - (entry_of t g p r).first) (drop (entry_of t g p r).first (order_words t g)) ≡ keep (in_region g t r) (under t p)
  entry_slice r h q =
      let here = keep (in_region g t r) (under t p) in
      let at = position_in (first_of here) (order_words t g) in
      let size : at + length here - at ≡ length here = omega arith in
      let run : here ≡ keep (in_region g t r) (from_on (first_of (under t p)) (length (under t p))) = ap (keep (in_region g t r)) (under-run t o p) in
      let parts = sym run ∙ (first_rest here (not-true (is_empty here) q)).0 in
      ap (λ (n : ℕ). take n (drop at (order_words t g))) size
      ∙ subst (λ (l : List ℕ). take (length l) (drop at (order_words t g)) ≡ l) (sym run)
      (region_slice (region_of_stand g t) (stands t) regions (first_of (under t p)) (length (under t p)) r (under_fits t o p) h (first_of here) (drop 1 here) parts)

  pub range_regions : (b : Rect) → range_list t g p b ≡ each_list (λ r. keep (λ i. in_rect b (place_of t i)) (keep (in_region g t r) (under t p))) (regions_under t g p)
  range_regions b =
      let inside : ℕ → Bool = λ i. in_rect b (place_of t i) in
      each_list_same (λ r. keep (in_region g t r) (keep inside (under t p))) (λ r. keep inside (keep (in_region g t r) (under t p))) (up_to regions)
      (λ r h. keep_comm (in_region g t r) inside (under t p))
      ∙ each_list-keep (λ r. keep inside (keep (in_region g t r) (under t p))) (occupied t g p) (up_to regions)
      (λ r q. ap (keep inside) (empty_of (keep (in_region g t r) (under t p)) q))

-- ---- at a lawful table, whose stands are all in one of the regions

module _ (t : Table) (g : Grid) (l : LawfulTable t g) where
  pub region_small : (i : ℕ) → i < stands t → region_of_stand g t i < regions
  unfolding region_of_stand
  region_small i h = region_among g (place_of t i) l.gridded (l.placed i h)

  -- so that putting them by region loses none and adds none
  pub by_region_shuffle : (s : List ℕ) → ((i : ℕ) → In i s → i < stands t) → Shuffle (by_region g t s) s
  by_region_shuffle s small = parts_shuffle (region_of_stand g t) regions s (λ i h. region_small i (small i h))
