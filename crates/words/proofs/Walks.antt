-- The loops over the nodes: the cursor on its way, and what counting, writing and checking have done so far.
-- Assumes nothing.
use mathlib.Core.Path.{◌≡◌, refl, sym, ap, ◌∙◌}
use mathlib.Core.Bool.{Bool, true, false}
use mathlib.Core.List.{List, [], ◌∷◌}
use Prim.Native.Nat.{ℕ, suc, ◌+◌, ◌-◌, ◌*◌, ◌≤◌, ◌<◌}
use native.Mathlib.Omega.{arith}
use borrow.Author.Rules.{rules}
use native.Mathlib.Nat.{lt_of_not-le}
use lib.ListN.{length, length-append, length-set, set, drop_of_length-le}
use lib.Count.{ones}
use Rattle.std.specs.Int.{from_bool}
use Rattle.base.specs.Lists.{from_on, up_to, each_list}
use Rattle.rules.specs.Places.{regions}
use Rattle.base.proofs.Members.{length-each, length-keep, each_same}
use Rattle.base.proofs.Runs.{length_from}
use Rattle.base.proofs.Rows.{length_parts}
use Rattle.base.proofs.Words.{ones_word}
use Rattle.node.specs.declared.cursor.Cursor.{Cursor}
use Rattle.node.specs.declared.Above.{Above}
use Rattle.node.specs.declared.Work.{Work}
use Rattle.node.specs.Columns.{IndexColumns, LawfulColumns, Grows, at, growth, grown_of, held_among, regions_among, bits_among}
use Rattle.node.specs.Visits.{Visit, new_visits, visits_from, root_cursor, places_at, On, Stepped, Long, on_path, keeps_in, served_in, kept_of}
use Rattle.node.specs.Rows.{stands_at, bits_at, entries_at, row_at}
use Rattle.node.proofs.Ends.{grown_small}
use Rattle.node.proofs.Placing.{regions_are}
use Rattle.node.proofs.Gathering.{entries_held}
use Rattle.node.proofs.Steps.{visits_first, visits_done}
use Rattle.words.specs.Words.{entry_rows, Trail, root_trail, served_at, trail_past, row_of, kept_words, own_record, rows_from, records_from, entry_words_from, count_from, kept_from, none_yet, node_count_of, visit_of, trail_of, blank_work, Scratch, Standing, Moved}
use Rattle.words.proofs.Overs.{Next, length_rows}

abbrev pub rest_of : List ℕ → List ℕ → Cursor → List Visit
rest_of lengths shared c = visits_from lengths shared c.stand.0 c.length

-- ---- which nodes, and how many

-- the root, and of each stand those that the one before has not
pub visits_all : (lengths shared : List ℕ) → Grows lengths shared
    → visits_from lengths shared 0 0 ≡ record { stand = 0; length = 0 } ∷ each_list (new_visits lengths shared) (up_to (length lengths))
unfolding visits_from
visits_all [] shared g = refl
visits_all (n ∷ ns) shared g = let e : suc (length ns) - 1 ≡ length ns = omega arith in visits_first (n ∷ ns) shared 0 0 (omega arith) ∙ rw (e, g.first)

module _ (lengths shared : List ℕ) (g : Grows lengths shared) where
  new_count : (k : ℕ) → length (new_visits lengths shared k) ≡ growth lengths shared k
  new_count k =
      length-each _ (from_on (suc (at shared k)) (suc (at lengths k) - suc (at shared k))) ∙ length_from (suc (at shared k)) (suc (at lengths k) - suc (at shared k)) ∙ omega arith

  pub node_count_lem : length (visits_from lengths shared 0 0) ≡ grown_of lengths shared 0 (length lengths) + 1
  unfolding grown_of
  node_count_lem =
      let z : length lengths - 0 ≡ length lengths = omega arith in
      let new = new_visits lengths shared in
      rw (visits_all lengths shared g, z, length_parts new (up_to (length lengths)), each_same (λ k. length (new k)) (growth lengths shared) (up_to (length lengths)) (λ k u. new_count k)) (omega arith)

  -- 24 for each stand, and the root
  pub nodes_few : length (visits_from lengths shared 0 0) ≤ 24577
  nodes_few = omega (arith, node_count_lem, grown_small lengths shared g 0 (length lengths) (omega arith))

-- ---- how many entries a node has

held_few : (region s : List ℕ) → length (regions_among region s) ≤ 64
held_few region s = omega (arith, length-keep (held_among region s) (up_to regions), length_from 0 regions, regions_are)

pub entries_held_at : (t : IndexColumns) (v : Visit) → length (entries_at t v) ≡ length (regions_among t.region (stands_at t.shared v))
unfolding entries_at
entries_held_at t v = entries_held t.region t.score (places_at t.region v.stand) (stands_at t.shared v)

-- ---- the cursor on its way

pub record Going (lengths shared : List ℕ) (all : ℕ) (c : Cursor) : Type 0 where
  pub left : c.number.0 + length (rest_of lengths shared c) ≡ all
  pub few : all ≤ 24577
  pub low : c.entries ≤ 64 * c.number.0
  pub fewer : c.records ≤ c.number.0
  pub on : c.number.0 < all → On lengths shared c

module _ {lengths shared : List ℕ} {all : ℕ} where
  going : {c : Cursor} → c ≡ root_cursor → Grows lengths shared → all ≡ length (visits_from lengths shared 0 0) → Going lengths shared all c
  unfolding grown_of
  going r g e = let few = nodes_few lengths shared g in rw r (search rules)

  module _ {c : Cursor} (s : Going lengths shared all c) (lt : c.number.0 < all) where
    pub going_first : rest_of lengths shared c ≡ visit_of c ∷ visits_from lengths shared c.stand.0 (suc c.length)
    going_first = visits_first lengths shared c.stand.0 c.length (s.on lt).long

    module _ {held kept : ℕ} {r : Cursor} (p : Stepped lengths shared c held kept r) where
      going_rest : rest_of lengths shared c ≡ visit_of c ∷ rest_of lengths shared r
      going_rest = going_first ∙ ap (λ (l : List Visit). visit_of c ∷ l) (sym p.visits)

      left_more : r.number.0 + length (rest_of lengths shared r) ≡ all
      left_more = omega (arith, p.number, s.left, ap length going_rest)

      -- a cursor with nodes before it stands at one
      inside : r.number.0 < all → r.stand.0 < length lengths
      inside h = lt_of_not-le (λ q. omega (arith, left_more, ap length (visits_done lengths shared r.stand.0 r.length q p.some)))

      going_more : held ≤ 64 → kept ≤ 1 → Going lengths shared all r
      going_more h k =
          record { left = left_more; few = s.few; low = omega (arith, p.number, p.entries, s.low); fewer = omega (arith, p.number, p.records, s.fewer); on = λ l. p.on (inside l) }

  pub going_end : {c : Cursor} → Going lengths shared all c → all ≤ c.number.0 → rest_of lengths shared c ≡ []
  going_end {c} s h = drop_of_length-le (rest_of lengths shared c) {i = 0} (omega (arith, s.left))

-- ---- counting

-- a node keeps one record or none
kept_one : (own : Bool) → from_bool own ≤ 1
kept_one true = omega arith
kept_one false = omega arith

-- what is still to count, by the records from the regions above on
pub record Counting (lengths shared region : List ℕ) (all : ℕ) (above : List ℕ) (c : Cursor) : Type 0 where
  pub way : Going lengths shared all c
  pub size : length above ≡ 25
  pub so_far : c.entries + count_from shared region (rest_of lengths shared c) ≡ count_from shared region (visits_from lengths shared 0 0)
  pub kept_far : c.records + kept_from shared region above (rest_of lengths shared c) ≡ kept_from shared region none_yet (visits_from lengths shared 0 0)

module _ {lengths shared region : List ℕ} {all : ℕ} where
  pub counting : {c : Cursor} → c ≡ root_cursor → Grows lengths shared → all ≡ length (visits_from lengths shared 0 0) → Counting lengths shared region all none_yet c
  counting r g e = record { way = going r g e; size = refl; so_far = rw r (omega arith); kept_far = rw r (omega arith) }

  module _ {above : List ℕ} {c : Cursor} (s : Counting lengths shared region all above c) (lt : c.number.0 < all) {bits own : ℕ}
      (e : bits ≡ bits_among region (stands_at shared (visit_of c))) (k : own ≡ from_bool (keeps_in above c.length bits)) where
    pub held_is : ones bits ≡ length (regions_among region (stands_at shared (visit_of c)))
    unfolding regions
    held_is = ap ones e ∙ ones_word (held_among region (stands_at shared (visit_of c))) 0 64

    pub counting_fits : c.entries + ones bits < 4294967296
    counting_fits = omega (arith, held_is, held_few region (stands_at shared (visit_of c)), s.way.low, s.way.few)

    pub records_fit : c.records + own < 4294967296
    records_fit = omega (arith, k, kept_one (keeps_in above c.length bits), s.way.fewer, s.way.few)

    pub counting_more : {held : ℕ} {above' : List ℕ} {r : Cursor} → held ≡ length (regions_among region (stands_at shared (visit_of c))) → above' ≡ set above c.length bits
        → Stepped lengths shared c held own r → Counting lengths shared region all above' r
    counting_more {held} {above'} {r} h x p =
        let rest = going_rest s.way lt p in
        let more = ap (λ (b : ℕ). kept_from shared region (set above c.length b) (rest_of lengths shared r)) e in
        rw x record {
          way = going_more s.way lt p (omega (arith, h, held_few region (stands_at shared (visit_of c)))) (omega (arith, k, kept_one (keeps_in above c.length bits)));
          size = length-set above c.length bits ∙ s.size;
          so_far = omega (arith, s.so_far, h, p.entries, ap (count_from shared region) rest);
          kept_far = omega (arith, s.kept_far, p.records, rw e at k, ap (kept_from shared region above) rest, more);
        }

  pub counting_end : {above : List ℕ} {c : Cursor} → Counting lengths shared region all above c → all ≤ c.number.0
      → (c.entries ≡ count_from shared region (visits_from lengths shared 0 0)) × (c.records ≡ kept_from shared region none_yet (visits_from lengths shared 0 0))
  counting_end {above} s h =
      let none = going_end s.way h in
      (omega (arith, s.so_far, ap (count_from shared region) none), omega (arith, s.kept_far, ap (kept_from shared region above) none))

pub length-row : (t : IndexColumns) (a : Trail) (v : Visit) → length (row_of t a v) ≡ 8
unfolding row_at
length-row t a v = refl

pub served_one : (t : IndexColumns) (a : Trail) (v : Visit) → kept_of (served_at t a v) ≤ 1
served_one t a v = kept_one (served_at t a v).own

-- ---- with what is lent beside the cursor

-- a path keeps its length
pub long_still : (a : Above) (l number served bits : ℕ) → Long a → Long (on_path a l number served bits)
long_still a l number served bits h =
    record { numbers = length-set a.numbers l number ∙ h.numbers; records = length-set a.records l served ∙ h.records; regions = length-set a.regions l bits ∙ h.regions }

pub record Carrying (t : IndexColumns) (all : ℕ) (c : Cursor) (w : Work) : Type 0 where
  pub way : Going t.lengths t.shared all c
  pub next_is : w.next ≡ places_at t.region c.stand.0
  pub scratch : Scratch w

pub blank : (next : List ℕ) → Scratch (blank_work next)
blank next = record { long = record { numbers = refl; records = refl; regions = refl }; places_size = refl; best_size = refl; ranked_size = refl }

pub root-trail : (next : List ℕ) {c : Cursor} → c ≡ root_cursor → trail_of c (blank_work next) ≡ root_trail
root-trail next r = rw r

module _ {t : IndexColumns} {all : ℕ} {c : Cursor} {w : Work} where
  pub carrying : LawfulColumns t → c ≡ root_cursor → all ≡ node_count_of t → w.next ≡ places_at t.region 0 → Scratch w → Carrying t all c w
  carrying l r e n s = record { way = going r l.grows e; next_is = rw r n; scratch = s }

  module _ (s : Carrying t all c w) (lt : c.number.0 < all) where
    pub standing : Standing t c w
    standing = record { on = s.way.on lt; low = omega (arith, s.way.few); few = s.way.low; fewer = s.way.fewer; next_is = s.next_is; scratch = s.scratch }

    -- the node's words are the first of those that are left
    abbrev left : List Visit
    left = visits_from t.lengths t.shared c.stand.0 (suc c.length)

    pub rows_first : Next (rows_from t (trail_of c w) (rest_of t.lengths t.shared c)) (row_of t (trail_of c w) (visit_of c)) (rows_from t (trail_past t (trail_of c w) (visit_of c)) left)
    rows_first = record { is = ap (rows_from t (trail_of c w)) (going_first s.way lt) }

    pub records_first : Next (records_from t (trail_of c w) (rest_of t.lengths t.shared c)) (own_record t (trail_of c w) (visit_of c)) (records_from t (trail_past t (trail_of c w) (visit_of c)) left)
    records_first = record { is = ap (records_from t (trail_of c w)) (going_first s.way lt) }

    pub entries_first : Next (entry_words_from t (rest_of t.lengths t.shared c)) (entry_rows (entries_at t (visit_of c))) (entry_words_from t left)
    entries_first = record { is = ap (entry_words_from t) (going_first s.way lt) }

    entries_few : length (entries_at t (visit_of c)) ≤ 64
    entries_few = omega (arith, entries_held_at t (visit_of c), held_few t.region (stands_at t.shared (visit_of c)))

    pub carrying_more : {r : Cursor} {w' : Work} → Moved t c w r w' → Carrying t all r w'
    carrying_more m =
        record { way = going_more s.way lt m.stepped entries_few (served_one t (trail_of c w) (visit_of c)); next_is = m.next_is; scratch = m.scratch }

pub entries_length : (t : IndexColumns) (vs : List Visit) → length (entry_words_from t vs) ≡ count_from t.shared t.region vs * 4
entries_length t [] = refl
entries_length t (v ∷ vs) =
    omega (arith, length-append (entry_rows (entries_at t v)) (entry_words_from t vs), length_rows (entries_at t v), entries_held_at t v, entries_length t vs)

-- a record that is kept has two words
words_kept : (own : Bool) (bits : ℕ) → length (kept_words own bits) ≡ from_bool own * 2
words_kept true bits = refl
words_kept false bits = refl

pub record_length : (t : IndexColumns) (a : Trail) (v : Visit) → length (own_record t a v) ≡ kept_of (served_at t a v) * 2
record_length t a v = words_kept (served_at t a v).own (bits_at t v)

pub records_length : (t : IndexColumns) (a : Trail) (vs : List Visit) → length (records_from t a vs) ≡ kept_from t.shared t.region a.above.regions vs * 2
unfolding trail_past served_in bits_at
records_length t a [] = refl
records_length t a (v ∷ vs) =
    omega (arith, length-append (own_record t a v) (records_from t (trail_past t a v) vs), record_length t a v, records_length t (trail_past t a v) vs)
