-- The promise of a question about a rectangle, from a listing: kept wherever the question answers what there is to look at.
-- Assumes nothing.
use mathlib.Core.Path.{◌≡◌, refl, sym, ap, ◌∙◌, subst}
use mathlib.Core.Logic.{inl, inr}
use mathlib.Core.Bool.{Bool, true, false, cond}
use mathlib.Core.List.{List, []}
use Prim.Native.Nat.{ℕ}
use native.Mathlib.Omega.{arith}
use lib.IntN.{ℤ}
use borrow.Table.Steps.{cases}
use lib.ListN.{length}
use Rattle.std.specs.Prelude.{Some, None, Ok, Err}
use Rattle.base.specs.Lists.{up_to, keep, each_list, is_empty}
use Rattle.base.proofs.Members.{keep_none, each_list-keep}
use Rattle.rules.specs.declared.Grid.{Grid}
use Rattle.rules.specs.declared.Rect.{Rect}
use Rattle.rules.specs.Places.{regions, grid_lawful, rect_lawful, in_rect}
use Rattle.rules.specs.Tables.{Table, place_of}
use Rattle.rules.specs.Questions.{under, in_region, by_region, range_list}
use Rattle.rules.specs.Indexes.{index_of}
use Rattle.rules.specs.Promises.{Harmless}
use Rattle.rules.proofs.Lawful.{set_parts}
use Rattle.grid.specs.declared.cells.Cells.{Cells}
use Rattle.grid.specs.Cells.{cells_of, both_cells, regions_in}
use Rattle.grid.proofs.Covers.{Edges}
use Rattle.walk.specs.Listings as listings
use Rattle.walk.specs.Asked.{Listed}
use Rattle.walk.proofs.Listed.{nowhere_none, never_broken, entries_listed}
use Rattle.runs.specs.Notes.{notes_in, blank}
use Rattle.runs.specs.Sights.{inside, known, noted_in, touched_stands, agree, Look, listed_look, straight_look, look_at, Met, look_met}
use Rattle.runs.specs.Promises.{RectFrom, Sees, Answers}
use Rattle.runs.proofs.Meaning.{agreed, numbers, looked-at, look_is, seen, seen_are, seen_known, range_is}
use Rattle.runs.proofs.Meaning as meaning

-- no stand is in a range of none
none_ranged : (t : Table) (g : Grid) (p : List ℕ) (r : Rect) → under t p ≡ [] → range_list t g p r ≡ []
none_ranged t g p r e =
    ap (λ (s : List ℕ). by_region g t (keep (λ i. in_rect r (place_of t i)) s)) e
    ∙ each_list-keep (λ r. keep (in_region g t r) []) (λ r. false) (up_to regions) (λ r q. refl)
    ∙ ap (each_list (λ r. keep (in_region g t r) [])) (keep_none (λ r. false) (up_to regions) (λ r h. refl))

-- 7 is the only refusal of a listing where the rectangle is none
abbrev OnlySeven : Look → Type 0
OnlySeven (Look.regions wanted first numbers) = Unit {0}
OnlySeven Look.nothing = Unit {0}
OnlySeven (Look.refused n) = n ≡ 7

either : (test : Bool) (look other : Look) → OnlySeven look → OnlySeven other → OnlySeven (cond test look other)
either true look other h k = h
either false look other h k = k

only_7 : (g : Grid) (entries : List ℕ) (at : listings.Listed) (r : Rect) → OnlySeven (straight_look g entries at r)
unfolding listed_look
only_7 g entries (Ok (Some l)) r =
    let notes = notes_in entries l.first (length (regions_in l.regions)) blank in
    either (grid_lawful g) _ _ (either (is_empty (regions_in (both_cells l.regions (cells_of g r)))) _ _ tt (either notes.whole _ _ tt refl)) refl
only_7 g entries (Ok None) r = tt
only_7 g entries (Err e) r = refl

-- the stands' places
record Places : Type 0 where
  east : List ℤ
  north : List ℤ

module _ {Out : Type 0} (comes_to : ℕ → List ℕ → Out) (refused : ℕ → Out) (whatever : (n : ℕ) (list : List ℕ) → (n ≡ 0 → ⊥) → comes_to n list ≡ refused n)
    (east north : List ℤ) (g : Grid) (order entries : List ℕ) (r : Rect) (o : Out) where
  abbrev answers : Look → Type 0
  answers look = Answers comes_to refused r (look_met east north order entries look) o

  -- ---- on any words: 7, or what some stands come to

  either-harmless : (test : Bool) (met other : Met) → (Answers comes_to refused r met o → Harmless (comes_to 0) (refused 7) o) → (Answers comes_to refused r other o → Harmless (comes_to 0) (refused 7) o)
      → Answers comes_to refused r (cond test met other) o → Harmless (comes_to 0) (refused 7) o
  either-harmless true met other h k = h
  either-harmless false met other h k = k

  harmless_by : (look : Look) → OnlySeven look → answers look → Harmless (comes_to 0) (refused 7) o
  harmless_by (Look.regions wanted first numbers) only w =
      let seen = touched_stands (noted_in east order entries first numbers) wanted in
      either-harmless (agree east north order) (Met.stands east north seen) (Met.refused 7) (λ v. v.harmless) inl w
  harmless_by Look.nothing only w = inr ([], w)
  harmless_by (Look.refused n) only w = inl (w ∙ ap refused only)

  -- ---- on a lawful set what its range comes to

  module _ (edges : Edges r) (t : Table) (p : List ℕ) where
    entries_exact : (cells : Cells) (first : ℕ) → Listed east north t.score g order entries (listings.entries cells first) t p → answers (listed_look g entries cells first r) → o ≡ comes_to 0 (range_list t g p r)
    entries_exact cells first l w =
        let x = index_of order l.nodes entries l.bits in
        let s = set_parts t g x l.lawful in
        let lists = entries_listed t g x s p cells first (sym l.listing) in
        let stands = seen t g x s p cells first lists r in
        let wanted = looked-at t g x s p cells first lists r in
        let lent : Look → Type 0 = λ look. Answers comes_to refused r (look_met t.east t.north order entries look) o in
        let same : ◌≡◌ {A = Places} (record { east = east; north = north }) (record { east = t.east; north = t.north }) = rw (l.easts, l.norths) in
        let v : lent (listed_look g entries cells first r) = subst (λ (c : Places). Answers comes_to refused r (look_met c.east c.north order entries (listed_look g entries cells first r)) o) same w in
        cases (is_empty wanted)
        (λ none.
        let is : listed_look g entries cells first r ≡ Look.nothing = look_is t g x s p cells first lists r ∙ rw none in
        let u : o ≡ comes_to 0 [] = subst lent is v in
        u ∙ ap (comes_to 0) (sym (meaning.none_ranged t g x s p cells first lists r edges none)))
        (λ some.
        let is : listed_look g entries cells first r ≡ Look.regions wanted first (numbers t g x s p cells first lists) = look_is t g x s p cells first lists r ∙ rw some in
        let found = touched_stands (noted_in t.east order entries first (numbers t g x s p cells first lists)) wanted in
        let u : Sees (comes_to 0) (refused 7) t.east t.north r found o = rw (agreed t g x s p cells first lists) at (subst lent is v) in
        let are = seen_are t g x s p cells first lists r in
        u.exact (ap (known t.east) are ∙ seen_known t g x s p cells first lists r)
        ∙ ap (comes_to 0) (ap (keep (inside t.east t.north r)) are ∙ range_is t g x s p cells first lists r edges))

    at_exact : (at : listings.Listed) → Listed east north t.score g order entries at t p → answers (straight_look g entries at r) → o ≡ comes_to 0 (range_list t g p r)
    at_exact (Ok (Some is)) l w = entries_exact is.regions is.first l w
    at_exact (Ok None) l w = w ∙ ap (comes_to 0) (sym (none_ranged t g p r (nowhere_none t g p (sym l.listing))))
    at_exact (Err e) l w = absurd (never_broken t g p (sym l.listing))

  pub look-kept : Edges r → (at : listings.Listed) (met : Met) → met ≡ look_met east north order entries (look_at g entries at r) → Answers comes_to refused r met o
      → RectFrom comes_to (refused 7) east north g order entries at r o
  look-kept edges at met e w =
      let there : answers (look_at g entries at r) = subst (λ (m : Met). Answers comes_to refused r m o) e w in
      cases (rect_lawful r)
      (λ straight.
      let a : answers (straight_look g entries at r) = rw straight at there in
      rw straight (record { exact = λ t p l. at_exact edges t p at l a; harmless = harmless_by (straight_look g entries at r) (only_7 g entries at r) a }))
      (λ reversed.
      let a : o ≡ refused 11 = rw reversed at there in
      let all : (list : List ℕ) → o ≡ comes_to 11 list = λ list. a ∙ sym (whatever 11 list (λ z. omega arith)) in
      rw reversed (record { exact = λ t p l. all (range_list t g p r); harmless = inr ([], all []) }))
