-- Checking all words: what is still to compare decides.
-- Assumes nothing.
use mathlib.Core.Path.{◌≡◌, refl, sym, ap, ◌∙◌}
use mathlib.Core.Bool.{Bool, true, false, ◌&&◌, and-false, true≢false}
use mathlib.Core.List.{[], ◌∷◌}
use Prim.Native.Nat.{ℕ, ◌*◌, ◌≤◌, ◌<◌}
use native.Mathlib.Omega.{arith}
use lib.ListN.{set}
use Rattle.std.specs.Int.{from_bool}
use Rattle.base.specs.Lists.{every}
use Rattle.base.proofs.Tests.{every-at, every_of}
use Rattle.node.specs.declared.cursor.Cursor.{Cursor}
use Rattle.node.specs.Columns.{IndexColumns, LawfulColumns, bits_among}
use Rattle.node.specs.Visits.{Visit, root_cursor, keeps_in, served_in, kept_of}
use Rattle.node.specs.Rows.{stands_at, bits_at, entries_at}
use Rattle.std.specs.Prelude.{Some, None}
use Rattle.node.specs.declared.Work.{Work}
use Rattle.rules.specs.declared.Sizes.{Sizes}
use Rattle.words.specs.Words.{Trail, root_trail, served_at, trail_past, rows_from, records_from, entry_words_from, node_words_of, entry_words_of, bit_words_of, node_count_of, Counted, Rooms, has_words, ComparesAll, visit_of, trail_of, Moved, has_row, has_entries, has_record, has_node}
use Rattle.words.proofs.Overs.{From, part, from_more, from_end, length_rows}
use Rattle.words.proofs.Walks.{rest_of, entries_held_at, Counting, counting, counting_more, counting_end, Carrying, carrying_more, rows_first, records_first, entries_first, going_end, length-row, record_length}

-- of three comparisons that each begin so, one differs at its beginning
one_fails : (a b c x y z : Bool) → every (a ∷ b ∷ c ∷ []) ≡ false → every ((a && x) ∷ (b && y) ∷ (c && z) ∷ []) ≡ false
unfolding every
one_fails true true true x y z e = absurd (true≢false e)
one_fails true true false x y z e = rw (and-false y) (and-false x)
one_fails true false c x y z e = and-false x
one_fails false b c x y z e = refl

all_three : {a b c d e f : Bool} → a ≡ d → b ≡ e → c ≡ f → every (a ∷ b ∷ c ∷ []) ≡ every (d ∷ e ∷ f ∷ [])
all_three p q r = rw (p, q, r)

bits_are : (t : IndexColumns) (v : Visit) → bits_at t v ≡ bits_among t.region (stands_at t.shared v)
unfolding bits_at
bits_are t v = refl

kept_is : (t : IndexColumns) (a : Trail) (v : Visit) → kept_of (served_at t a v) ≡ from_bool (keeps_in a.above.regions v.length (bits_at t v))
unfolding served_in
kept_is t a v = refl

above-past : (t : IndexColumns) (a : Trail) (v : Visit) (b : Trail) → b ≡ trail_past t a v → b.above.regions ≡ set a.above.regions v.length (bits_at t v)
unfolding trail_past
above-past t a v b e = ap (λ (x : Trail). x.above.regions) e

pub record Checking (t : IndexColumns) (all : ℕ) (rooms : Rooms) (w : Work) (c : Cursor) : Type 0 where
  pub carried : Carrying t all c w
  pub counted : Counting t.lengths t.shared t.region all w.above.regions c
  pub rows : From rooms.nodes 0 (node_words_of t) (rows_from t (trail_of c w) (rest_of t.lengths t.shared c)) (c.number.0 * 8)
  pub own : From rooms.entries 0 (entry_words_of t) (entry_words_from t (rest_of t.lengths t.shared c)) (c.entries * 4)
  pub kept : From rooms.bits 0 (bit_words_of t) (records_from t (trail_of c w) (rest_of t.lengths t.shared c)) (c.records * 2)

module _ {t : IndexColumns} {all : ℕ} {rooms : Rooms} {w : Work} {c : Cursor} where
  pub checking : trail_of c w ≡ root_trail → c ≡ root_cursor → LawfulColumns t → all ≡ node_count_of t → Carrying t all c w → Checking t all rooms w c
  checking z r l e s =
      record {
        carried = s;
        counted = rw (ap (λ (x : Trail). x.above.regions) z) (counting r l.grows e);
        rows = record { is = rw (z, r) };
        own = record { is = rw r };
        kept = record { is = rw (z, r) };
      }

  module _ (s : Checking t all rooms w c) where
    module _ (lt : c.number.0 < all) where
      pub checking_not : every (has_node t c w rooms) ≡ false → ComparesAll t rooms None
      checking_not q =
          let n = part s.rows (rows_first s.carried lt) in
          let e = part s.own (entries_first s.carried lt) in
          let b = part s.kept (records_first s.carried lt) in
          record {
            same = λ r v. (let z : ◌≡◌ {A = ℕ} 0 1 = cc in absurd (omega arith));
            different = λ v. all_three n e b ∙ one_fails (has_row t c w rooms) (has_entries t c rooms) (has_record t c w rooms) _ _ _ q;
          }

      pub checking_more : {r : Cursor} {w' : Work} → every (has_node t c w rooms) ≡ true → Moved t c w r w' → Checking t all rooms w' r
      checking_more q m =
          let p = m.stepped in
          record {
            carried = carrying_more s.carried lt m;
            counted = counting_more s.counted lt (bits_are t (visit_of c)) (kept_is t (trail_of c w) (visit_of c)) (entries_held_at t (visit_of c)) (above-past t (trail_of c w) (visit_of c) _ m.trail) p;
            rows = rw (p.visits, m.trail, p.number) (from_more s.rows (rows_first s.carried lt) (omega (arith, length-row t (trail_of c w) (visit_of c))) (every-at _ 0 q));
            own = rw (p.visits, p.entries) (from_more s.own (entries_first s.carried lt) (omega (arith, length_rows (entries_at t (visit_of c)))) (every-at _ 1 q));
            kept = rw (p.visits, m.trail, p.records) (from_more s.kept (records_first s.carried lt) (omega (arith, record_length t (trail_of c w) (visit_of c))) (every-at _ 2 q));
          }

    pub checking_end : {sizes : Sizes} → sizes ≡ record { nodes = all; entries = c.entries; bits = c.records } → all ≡ node_count_of t → all ≤ c.number.0
        → ComparesAll t rooms (Some sizes)
    checking_end {sizes} e n h =
        let none = going_end s.carried.way h in
        let full : has_words t rooms ≡ true = every_of _ (sym (from_end s.rows (rw none)), (sym (from_end s.own (rw none)), (sym (from_end s.kept (rw none)), tt))) in
        let counts = counting_end s.counted h in
        let counted : Counted t sizes = rw e (record { nodes = n; entries = counts.0; records = counts.1 }) in
        record {
          same = λ r v. (let z : sizes ≡ r = cc in (full, rw z at counted));
          different = λ v. (let z : ◌≡◌ {A = ℕ} 0 1 = cc in absurd (omega arith));
        }
