-- One turn at a node, over plain lists: what each call asks of the columns and the cursor, and what the calls together leave.
-- Assumes nothing.
use mathlib.Core.Path.{◌≡◌, ap, ◌∙◌}
use mathlib.Core.Bool.{true, false}
use mathlib.Core.List.{List}
use Prim.Native.Nat.{ℕ, ◌*◌}
use native.Mathlib.Omega.{arith}
use borrow.Author.Rules.{rules}
use lib.ListN.{length, drop}
use Rattle.base.specs.Lists.{every, begins}
use Rattle.base.proofs.Tests.{every_of, every_not}
use Rattle.node.specs.declared.cursor.Cursor.{Cursor}
use Rattle.std.specs.Prelude.{Some, None}
use Rattle.node.specs.declared.Gathered.{Gathered}
use Rattle.node.specs.declared.Work.{Work}
use Rattle.node.specs.declared.records.Served.{Served}
use Rattle.node.specs.Columns.{IndexColumns, LawfulColumns}
use Rattle.node.specs.Visits.{places_at, Long, served_in, kept_of, Stepped, Advanced}
use Rattle.node.specs.Rows.{bits_at, entries_at, row_at, Gathers, Rowed}
use Rattle.node.specs.Asks.{Low, GatherAsks, RowAsks, AdvanceAsks}
use Rattle.node.proofs.Placing.{next_small}
use Rattle.words.specs.Over.{over}
use Rattle.words.specs.Words.{entry_rows, entries_held, served_at, trail_past, row_of, kept_words, own_record, Rooms, visit_of, trail_of, Scratch, Standing, Moved, Wrote, has_node, Compares}
use Rattle.words.proofs.Walks.{length-row, long_still, served_one}

module _ {t : IndexColumns} {c : Cursor} {u : Work} (asks : Standing t c u) where
  pub gather_asks : LawfulColumns t → GatherAsks t c u
  gather_asks l =
      let low : Low u.next =
      λ r h. next_small t.region u.next c.stand.0 r l.placed asks.next_is (omega (arith, asks.on.within, l.same)) h in
      search rules

  -- w is what gathering leaves of u
  module _ {w : Work} {g : Gathered} {s : Served} (k : Gathers t c u w g) (f : s ≡ served_in w.above.records w.above.regions c.length c.records g.bits) where
    bits_now : g.bits ≡ bits_at t (visit_of c)
    unfolding bits_at
    bits_now = k.word

    served_now : s ≡ served_at t (trail_of c u) (visit_of c)
    served_now = rw (k.kept.1, bits_now) at f

    pub row-asks : LawfulColumns t → RowAsks t w.above.numbers c g.past.0 s
    row-asks l = let one = rw (← served_now) at (served_one t (trail_of c u) (visit_of c)) in rw k.kept.1 (search rules)

    -- what `row` gives
    abbrev pub RowHere : List ℕ → Type 0
    RowHere row = Rowed t w.above.numbers c g.past.0 s row

    row_now : {row : List ℕ} → RowHere row → row ≡ row_of t (trail_of c u) (visit_of c)
    unfolding row_at
    row_now r = rw (k.kept.1, k.past, served_now) at r

    pub row_size : {row : List ℕ} → RowHere row → length row ≡ 8
    row_size r = ap length (row_now r) ∙ length-row t (trail_of c u) (visit_of c)

    pub own_now : entries_held w g.held ≡ entries_at t (visit_of c)
    unfolding entries_at
    own_now = rw (k.kept.0, ← asks.next_is) k.entries

    pub count_now : g.held ≡ length (entries_at t (visit_of c))
    unfolding entries_at
    count_now = rw (← asks.next_is) k.count

    pub record_now : kept_words s.own g.bits ≡ own_record t (trail_of c u) (visit_of c)
    record_now = rw (served_now, bits_now)

    pub advance_asks : AdvanceAsks t c g s w
    advance_asks =
        let one = rw (← served_now) at (served_one t (trail_of c u) (visit_of c)) in
        let places : w.next ≡ places_at t.region c.stand.0 = k.kept.0 ∙ asks.next_is in
        let long : Long w.above = rw k.kept.1 asks.scratch.long in
        search rules

    module _ {w' : Work} {r : Cursor} (a : Advanced t c g s w w' r) where
      stepped_now : Stepped t.lengths t.shared c (length (entries_at t (visit_of c))) (kept_of (served_at t (trail_of c u) (visit_of c))) r
      stepped_now = rw (count_now, served_now) at a.stepped

      trail_now : trail_of r w' ≡ trail_past t (trail_of c u) (visit_of c)
      unfolding trail_past
      trail_now = rw (stepped_now.number, stepped_now.entries, stepped_now.records, a.path, k.kept.1, served_now, bits_now)

      scratch_now : Scratch w'
      scratch_now =
          record {
            long = rw (a.path, k.kept.1) (long_still u.above c.length c.number.0 s.number g.bits asks.scratch.long);
            places_size = rw a.slots.0 k.places_size;
            best_size = rw a.slots.1 k.best_size;
            ranked_size = rw a.slots.2 k.ranked_size;
          }

      pub moved : Moved t c u r w'
      moved = record { stepped = stepped_now; next_is = a.places; trail = trail_now; scratch = scratch_now }

    -- ---- the words put

    pub wrote : {rooms rooms' : Rooms} {row : List ℕ} → RowHere row → rooms'.nodes ≡ over rooms.nodes (c.number.0 * 8) row
        → rooms'.entries ≡ over rooms.entries (c.entries * 4) (entry_rows (entries_held w g.held))
        → rooms'.bits ≡ over rooms.bits (c.records * 2) (kept_words s.own g.bits) → Wrote t c u rooms rooms'
    wrote r p q b = record { row_now = rw (← row_now r) p; entries_now = rw (← own_now) q; record_now = rw (← record_now) b }

    -- ---- the words compared

    module _ {rooms : Rooms} {w' : Work} where
      unequal : every (has_node t c u rooms) ≡ false → Compares t c u w' rooms None
      unequal q = record { same = λ r v. (let z : ◌≡◌ {A = ℕ} 0 1 = cc in absurd (omega arith)); different = λ v. q }

      pub row_differs : {row : List ℕ} → RowHere row → begins row (drop (c.number.0 * 8) rooms.nodes) ≡ false → Compares t c u w' rooms None
      row_differs r q = unequal (every_not (has_node t c u rooms) 0 (rw (← row_now r) q))

      pub entries_differ : begins (entry_rows (entries_held w g.held)) (drop (c.entries * 4) rooms.entries) ≡ false → Compares t c u w' rooms None
      entries_differ q = unequal (every_not (has_node t c u rooms) 1 (rw (← own_now) q))

      pub record_differs : begins (kept_words s.own g.bits) (drop (c.records * 2) rooms.bits) ≡ false → Compares t c u w' rooms None
      record_differs q = unequal (every_not (has_node t c u rooms) 2 (rw (← record_now) q))

    pub agrees : {rooms : Rooms} {row : List ℕ} {w' : Work} {r : Cursor} → RowHere row → begins row (drop (c.number.0 * 8) rooms.nodes) ≡ true
        → begins (entry_rows (entries_held w g.held)) (drop (c.entries * 4) rooms.entries) ≡ true
        → begins (kept_words s.own g.bits) (drop (c.records * 2) rooms.bits) ≡ true
        → (a : Advanced t c g s w w' r) → Compares t c u w' rooms (Some r)
    agrees {rooms} {row} {w'} {r} f p q b a =
        let all : every (has_node t c u rooms) ≡ true = every_of _ (rw (← row_now f) p, (rw (← own_now) q, (rw (← record_now) b, tt))) in
        record { same = λ x v. (let z : r ≡ x = cc in (all, rw z at (moved a))); different = λ v. (let z : ◌≡◌ {A = ℕ} 0 1 = cc in absurd (omega arith)) }
