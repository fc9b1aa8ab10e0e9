-- Writing all words: what stands in the rooms so far, and what is left to write.
-- Assumes nothing.
use mathlib.Core.Path.{◌≡◌, refl}
use mathlib.Core.List.{List, [], ◌∷◌}
use Prim.Native.Nat.{ℕ, ◌*◌, ◌≤◌, ◌<◌}
use native.Mathlib.Omega.{arith}
use lib.ListN.{length, length-append}
use Rattle.node.specs.declared.cursor.Cursor.{Cursor}
use Rattle.node.specs.declared.Work.{Work}
use Rattle.node.specs.Columns.{IndexColumns}
use Rattle.node.specs.Visits.{Visit, root_cursor}
use Rattle.node.specs.Rows.{entries_at}
use Rattle.words.specs.Words.{Trail, root_trail, trail_past, row_of, rows_from, records_from, entry_words_from, node_words_of, entry_words_of, bit_words_of, visits_of, Rooms, visit_of, trail_of, Room, PutTurn, WriteAsks, WroteAll}
use Rattle.words.proofs.Overs.{Filled, filled, filled-room, filled_more, filled_end, length_rows}
use Rattle.words.proofs.Walks.{rest_of, Carrying, carrying_more, rows_first, records_first, entries_first, going_end, length-row, entries_length, record_length, records_length}

pub record Writing (t : IndexColumns) (all : ℕ) (was : Rooms) (w : Work) (rooms : Rooms) (c : Cursor) : Type 0 where
  pub carried : Carrying t all c w
  pub rows : Filled was.nodes 0 (node_words_of t) rooms.nodes (rows_from t (trail_of c w) (rest_of t.lengths t.shared c)) (c.number.0 * 8)
  pub own : Filled was.entries 0 (entry_words_of t) rooms.entries (entry_words_from t (rest_of t.lengths t.shared c)) (c.entries * 4)
  pub kept : Filled was.bits 0 (bit_words_of t) rooms.bits (records_from t (trail_of c w) (rest_of t.lengths t.shared c)) (c.records * 2)

rows_length : (t : IndexColumns) (a : Trail) (vs : List Visit) → length (rows_from t a vs) ≡ length vs * 8
rows_length t a [] = refl
rows_length t a (v ∷ vs) = omega (arith, length-append (row_of t a v) (rows_from t (trail_past t a v) vs), length-row t a v, rows_length t (trail_past t a v) vs)

module _ {t : IndexColumns} {all : ℕ} {was : Rooms} {w : Work} {c : Cursor} where
  pub writing : trail_of c w ≡ root_trail → c ≡ root_cursor → WriteAsks t all was → Carrying t all c w → Writing t all was w was c
  writing z r a s =
      record {
        carried = s;
        rows = rw (z, r) (filled refl (omega (arith, a.row_room, rows_length t root_trail (visits_of t))));
        own = rw r (filled refl (omega (arith, a.entry_room, entries_length t (visits_of t))));
        kept = rw (z, r) (filled refl (omega (arith, a.record_room, records_length t root_trail (visits_of t))));
      }

  module _ {rooms : Rooms} (s : Writing t all was w rooms c) where
    module _ (lt : c.number.0 < all) where
      pub writing_room : Room t c w rooms
      writing_room =
          record {
            row_room = omega (arith, filled-room s.rows (rows_first s.carried lt), length-row t (trail_of c w) (visit_of c));
            entry_room = omega (arith, filled-room s.own (entries_first s.carried lt), length_rows (entries_at t (visit_of c)));
            record_room = filled-room s.kept (records_first s.carried lt);
          }

      pub writing_more : {r : Cursor} {w' : Work} {rooms' : Rooms} → PutTurn t c w r w' rooms rooms' → Writing t all was w' rooms' r
      writing_more m =
          let p = m.moved.stepped in
          record {
            carried = carrying_more s.carried lt m.moved;
            rows = rw (p.visits, m.moved.trail, p.number) (filled_more s.rows (rows_first s.carried lt) m.wrote.row_now (omega (arith, length-row t (trail_of c w) (visit_of c))));
            own = rw (p.visits, p.entries) (filled_more s.own (entries_first s.carried lt) m.wrote.entries_now (omega (arith, length_rows (entries_at t (visit_of c)))));
            kept = rw (p.visits, m.moved.trail, p.records) (filled_more s.kept (records_first s.carried lt) m.wrote.record_now (omega (arith, record_length t (trail_of c w) (visit_of c))));
          }

    pub writing_end : all ≤ c.number.0 → WroteAll t was rooms
    writing_end h =
        let none = going_end s.carried.way h in
        record { rows_now = filled_end s.rows (rw none); entries_now = filled_end s.own (rw none); records_now = filled_end s.kept (rw none) }
