-- On a lawful set there is to look at exactly what the range of the text is chosen from: by region, then by number.
-- What is noted is the entries' runs; a region that is not looked at has no stand in the rectangle. Assumes nothing.
use mathlib.Core.Path.{◌≡◌, refl, sym, ap, ◌∙◌}
use mathlib.Core.Logic.{inl, inr}
use mathlib.Core.Bool.{Bool, true, false, cond, not}
use mathlib.Core.List.{List, [], ◌∷◌}
use Prim.Native.Nat.{ℕ, suc, ◌+◌, ◌/◌, ◌≤◌, ◌<◌}
use native.Mathlib.Omega.{arith}
use lib.ListN.{length, drop, length-replicate}
use borrow.Table.Steps.{cases}
use borrow.Author.Tests.{eqb-true, le-leb, le-ltb}
use Rattle.std.specs.Prelude.{Ok}
use Rattle.base.specs.Lists.{up_to, keep, each, each_list, is_empty, first_of, In}
use Rattle.base.proofs.Tests.{never, refuted, every_of}
use Rattle.base.proofs.Begins.{begins-part, begins-length}
use Rattle.base.proofs.Members.{in-at, keep-in, keep_none, in-each, each_in, length-each, in-each_list, each_list_same, each_list-keep, keep-each_list, drop-take, first_rest, empty_of}
use Rattle.base.proofs.Runs.{in_from}
use Rattle.rules.specs.declared.Grid.{Grid}
use Rattle.rules.specs.declared.Rect.{Rect}
use Rattle.rules.specs.Places.{regions, in_rect}
use Rattle.rules.specs.Tables.{Table, stands, place_of}
use Rattle.rules.specs.Questions.{under, region_of_stand, in_region, range_list}
use Rattle.rules.specs.Indexes.{occupied, regions_under, entry_of, entries_of, order_words, Index}
use Rattle.rules.proofs.Lawful.{SetParts}
use Rattle.grid.specs.declared.cells.Cells.{Cells}
use Rattle.grid.specs.Cells.{cells_of, has_cell, both_cells, regions_in}
use Rattle.grid.proofs.Listed.{both_listed}
use Rattle.grid.proofs.Covers.{Edges, covered}
use Rattle.meaning.specs.Meaning.{no_entry}
use Rattle.meaning.proofs.Tables.{in-under}
use Rattle.meaning.proofs.Regions.{entry_slice, range_regions}
use Rattle.meaning.proofs.Listing.{order_means}
use Rattle.meaning.proofs.Entries.{entries_mean, entry_own, entry_there}
use Rattle.walk.specs.declared.entry.Entry.{Entry}
use Rattle.walk.specs.Entries.{entry_read, as_read, SpelledFrom}
use Rattle.walk.proofs.Listed.{Lists}
use Rattle.runs.specs.Notes.{notes_of, notes_in, blank}
use Rattle.runs.specs.Sights.{known, Noted, noted_in, entry_noted, run_by, run_of, touched_stands, agree, Look, listed_look}
use Rattle.runs.proofs.Sights.{known_of}
use Rattle.runs.proofs.Noted.{put_numbers, spelled_fit, note_list, AllRight, noted_right}

blank-length : length blank ≡ regions
unfolding blank regions
blank-length = length-replicate {A = ℕ} 64 0

module _ (t : Table) (g : Grid) (x : Index) (s : SetParts t g x) (p : List ℕ) (cells : Cells) (first : ℕ) (lists : Lists t g x p cells first) where
  -- the stands of region r under the text
  abbrev stands_of : ℕ → List ℕ
  stands_of r = keep (in_region g t r) (under t p)

  -- ---- the notes

  abbrev listed : List Entry
  listed = each as_read (entries_of t g p)

  abbrev pub numbers : List ℕ
  numbers = put_numbers listed 0 blank

  spelled : SpelledFrom x.entries (stands t) first listed
  spelled = lists.spelled (stands t) (omega arith)

  notes_are : 0 < length listed → notes_in x.entries first (length (regions_in cells)) blank ≡ notes_of numbers true
  unfolding notes_in
  notes_are some =
      let many : length (regions_in cells) ≡ length listed = lists.many ∙ sym (length-each as_read (entries_of t g p)) in
      let none : first + 0 ≡ first = omega arith in
      rw (many, le-ltb (length x.entries / 4) (first + length listed) (spelled_fit x.entries (stands t) first listed some spelled))
      (note_list x.entries (stands t) first listed 0 blank (rw none spelled))

  abbrev here : Noted
  here = record { stands = stands t; order = x.order; entries = x.entries; first = first; numbers = numbers }

  -- the entry that is noted for a region is its own
  Right : ℕ → ℕ → Type 0
  Right j r = entry_read x.entries (stands t) (first + j) ≡ Ok (as_read (entry_of t g p r))

  own : (y : Entry) → In y listed → (y ≡ as_read (entry_of t g p y.region)) × (y.region < length blank)
  own y k =
      let e = in-each as_read (entries_of t g p) y k in
      let o = entry_own t g s.table p e.0 e.1 in
      rw e.2 (ap as_read o.same, omega (arith, o.small, blank-length))

  all_right : (es : List Entry) (i : ℕ) → SpelledFrom x.entries (stands t) (first + i) es → ((y : Entry) → In y es → (y ≡ as_read (entry_of t g p y.region)) × (y.region < length blank))
      → AllRight Right (length blank) es i
  unfolding Right
  all_right [] i w o = tt
  all_right (y ∷ es) i w o =
      let next : suc (first + i) ≡ first + suc i = omega arith in
      (w.0 ∙ ap Ok (o y (inl refl)).0, (o y (inl refl)).1, all_right es (suc i) (rw next at w.1) (λ z k. o z (inr k)))

  noted : (r : ℕ) → In r (regions_under t g p) → entry_noted here r ≡ Ok (as_read (entry_of t g p r))
  unfolding Right
  noted r h =
      let none : first + 0 ≡ first = omega arith in
      noted_right Right listed 0 blank (all_right listed 0 (rw none spelled) own)
      r (inl (each_in (λ y. y.region) listed (as_read (entry_of t g p r)) (each_in as_read (entries_of t g p) (entry_of t g p r) (entry_there t g s.table p r h))))

  past-within : (r : ℕ) → In r (regions_under t g p) → (entry_of t g p r).past ≤ stands t
  past-within r h =
      let a = in-at no_entry (entry_of t g p r) (entries_of t g p) (entry_there t g s.table p r h) in
      rw a.2 at ((entries_mean t g s.table p).bounds a.0 a.1).1

  -- so a region's run has its stands
  run_is : (r : ℕ) → In r (regions_under t g p) → run_of here r ≡ stands_of r
  run_is r h =
      let k = keep-in (occupied t g p) (up_to regions) r h in
      let small : r < regions = omega (arith, in_from 0 regions r k.0) in
      let e = entry_of t g p r in
      let O = order_words t g in
      ap (run_by here) (noted r h)
      ∙ ap (drop e.first) (begins-part O x.order e.past s.order (omega (arith, (order_means t g s.table).whole, past-within r h)))
      ∙ drop-take e.first e.past O
      ∙ entry_slice t g s.table.ordered p r small k.1

  pub agreed : agree t.east t.north x.order ≡ true
  unfolding agree
  agreed =
      let shape = s.table.shaped in
      let order : stands t ≤ length x.order = omega (arith, (order_means t g s.table).whole, begins-length (order_words t g) x.order s.order) in
      let easts = length t.east in
      every_of _
      (le-leb easts 1024 (omega (arith, shape.few)), (le-leb easts (length t.north) (omega (arith, shape.norths)), (le-leb easts (length x.order) (omega (arith, shape.easts)), tt)))

  -- ---- the stands of the regions that the rectangle touches

  module _ (rect : Rect) where
    abbrev pub in_it : ℕ → Bool
    in_it i = in_rect rect (place_of t i)

    -- the regions that are looked at
    abbrev pub looked-at : List ℕ
    looked-at = keep (has_cell (cells_of g rect)) (regions_under t g p)

    looked_are : regions_in (both_cells cells (cells_of g rect)) ≡ looked-at
    unfolding cells_of
    looked_are = ap (λ (c : Cells). regions_in (both_cells c (cells_of g rect))) lists.regions ∙ both_listed (occupied t g p) _

    abbrev pub seen : List ℕ
    seen = each_list stands_of looked-at

    pub seen_are : touched_stands (noted_in t.east x.order x.entries first numbers) looked-at ≡ seen
    seen_are =
        let there : noted_in t.east x.order x.entries first numbers ≡ here =
        ap (λ (n : ℕ). record { stands = n; order = x.order; entries = x.entries; first = first; numbers = numbers }) s.table.shaped.easts in
        ap (λ (n : Noted). touched_stands n looked-at) there ∙ each_list_same (run_of here) stands_of looked-at (λ r h. run_is r (keep-in (has_cell (cells_of g rect)) (regions_under t g p) r h).0)

    -- each is of the table
    pub seen_known : known t.east seen ≡ true
    seen_known =
        known_of t.east seen
        (λ i h.
        let u = in-each_list stands_of looked-at i h in
        let v = keep-in (in_region g t u.0) (under t p) i u.2 in
        omega (arith, (in-under t p i v.0).0, s.table.shaped.easts))

    -- a region that is not looked at has no stand in the rectangle
    none_missed : Edges rect → (r : ℕ) → has_cell (cells_of g rect) r ≡ false → keep in_it (stands_of r) ≡ []
    unfolding region_of_stand
    none_missed e r q =
        keep_none in_it (stands_of r)
        (λ i h.
        refuted (in_it i)
        (λ f.
        let v = keep-in (in_region g t r) (under t p) i h in
        let there = covered g rect (place_of t i) s.table.gridded e (s.table.placed i (in-under t p i v.0).0) f in
        never (has_cell (cells_of g rect) r) (ap (has_cell (cells_of g rect)) (sym (eqb-true (region_of_stand g t i) r v.1)) ∙ there) q))

    -- so those that are in it are the range
    pub range_is : Edges rect → keep in_it seen ≡ range_list t g p rect
    range_is e =
        keep-each_list in_it stands_of looked-at
        ∙ sym (each_list-keep (λ r. keep in_it (stands_of r)) (has_cell (cells_of g rect)) (regions_under t g p) (none_missed e))
        ∙ sym (range_regions t g s.table.ordered p rect)

    pub none_ranged : Edges rect → is_empty looked-at ≡ true → range_list t g p rect ≡ []
    none_ranged e none = sym (range_is e) ∙ ap (λ (l : List ℕ). keep in_it (each_list stands_of l)) (empty_of looked-at (ap not none))

    -- ---- so that is what there is to look at

    some_listed : is_empty looked-at ≡ false → 0 < length listed
    some_listed some =
        let r = first_of looked-at in
        let under = (keep-in (has_cell (cells_of g rect)) (regions_under t g p) r (first_rest looked-at some).1).0 in
        let a = in-at no_entry (entry_of t g p r) (entries_of t g p) (entry_there t g s.table p r under) in
        omega (arith, a.1, length-each as_read (entries_of t g p))

    pub look_is : listed_look g x.entries cells first rect ≡ cond (is_empty looked-at) Look.nothing (Look.regions looked-at first numbers)
    unfolding listed_look
    look_is =
        cases (is_empty looked-at)
        (λ none. rw (s.table.gridded, looked_are, none))
        (λ some. rw (s.table.gridded, looked_are, some, notes_are (some_listed some)))
