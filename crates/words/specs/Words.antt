-- The words of all nodes, entries and bit records, from the columns alone, and what a turn of each loop leaves.
use Rattle.std.specs.Prelude.{◌≡◌, Option, Some, None, Bool, true, false, cond, List, [], ◌∷◌, ◌++◌, ℕ, suc, ◌+◌, ◌*◌, ◌≤◌, ◌<◌, length, drop, set, replicate}
use Rattle.std.specs.Int.{from_bool}
use Rattle.base.specs.Lists.{every, each, each_list, total, begins}
use Rattle.rules.specs.declared.Index as lent
use Rattle.rules.specs.declared.Sizes.{Sizes}
use Rattle.rules.specs.Indexes.{Entry, entry_row}
use Rattle.node.specs.declared.cursor.Cursor.{Cursor}
use Rattle.node.specs.declared.records.Served.{Served}
use Rattle.node.specs.declared.Above.{Above}
use Rattle.node.specs.declared.Work.{Work}
use Rattle.node.specs.Columns.{IndexColumns, at, end_of, regions_among, bits_among, entries_from, Sized}
use Rattle.node.specs.Visits.{Visit, visits_from, places_at, On, Stepped, above_of, Long, on_path, above_in, keeps_in, served_in, kept_of, halves_of}
use Rattle.node.specs.Rows.{stands_at, bits_at, entries_at, row_at}
use Rattle.words.specs.Over.{over}

abbrev pub entry_rows : List Entry → List ℕ
entry_rows l = each_list entry_row l

-- ---- what a walk has behind it

-- how many nodes, entries and bit records, and what lies above
pub record Trail : Type 0 where
  pub number : ℕ
  pub entries : ℕ
  pub records : ℕ
  pub above : Above

-- before the root
abbrev pub none_yet : List ℕ
none_yet = replicate 25 0

abbrev pub root_trail : Trail
root_trail = record { number = 0; entries = 0; records = 0; above = above_of none_yet none_yet none_yet }

-- how the node is served, and the trail past it
abbrev pub served_at : IndexColumns → Trail → Visit → Served
served_at t a v = served_in a.above.records a.above.regions v.length a.records (bits_at t v)

unfoldable pub trail_past : IndexColumns → Trail → Visit → Trail
trail_past t a v =
    record {
      number = suc a.number;
      entries = a.entries + length (entries_at t v);
      records = a.records + kept_of (served_at t a v);
      above = on_path a.above v.length a.number (served_at t a v).number (bits_at t v);
    }

-- ---- the words of nodes

abbrev pub row_of : IndexColumns → Trail → Visit → List ℕ
row_of t a v =
    row_at t (above_in a.above.numbers v.length) a.number a.entries v.stand v.length (end_of t.shared v.stand v.length) (served_at t a v)

-- the words of a record, of a node that keeps one; and the node's own
abbrev pub kept_words : Bool → ℕ → List ℕ
kept_words own bits = cond own (halves_of bits) []

abbrev pub own_record : IndexColumns → Trail → Visit → List ℕ
own_record t a v = kept_words (served_at t a v).own (bits_at t v)

-- of these nodes, with this trail behind the first of them
abbrev pub rows_from : IndexColumns → Trail → List Visit → List ℕ
rows_from t a [] = []
rows_from t a (v ∷ vs) = row_of t a v ++ rows_from t (trail_past t a v) vs

abbrev pub records_from : IndexColumns → Trail → List Visit → List ℕ
records_from t a [] = []
records_from t a (v ∷ vs) = own_record t a v ++ records_from t (trail_past t a v) vs

abbrev pub entry_words_from : IndexColumns → List Visit → List ℕ
entry_words_from t vs = each_list (λ v. entry_rows (entries_at t v)) vs

-- how many entries these nodes have: one for each region that holds a stand
abbrev pub count_from : List ℕ → List ℕ → List Visit → ℕ
count_from shared region vs = total (each (λ v. length (regions_among region (stands_at shared v))) vs)

-- how many records they keep, with these regions above the first of them
abbrev pub kept_from : List ℕ → List ℕ → List ℕ → List Visit → ℕ
kept_from shared region above [] = 0
kept_from shared region above (v ∷ vs) =
    from_bool (keeps_in above v.length (bits_among region (stands_at shared v))) + kept_from shared region (set above v.length (bits_among region (stands_at shared v))) vs

abbrev pub visits_of : IndexColumns → List Visit
visits_of t = visits_from t.lengths t.shared 0 0

abbrev pub node_count_of : IndexColumns → ℕ
node_count_of t = length (visits_of t)

abbrev pub entry_count_of : IndexColumns → ℕ
entry_count_of t = count_from t.shared t.region (visits_of t)

abbrev pub record_count_of : IndexColumns → ℕ
record_count_of t = kept_from t.shared t.region none_yet (visits_of t)

-- what building writes
abbrev pub node_words_of : IndexColumns → List ℕ
node_words_of t = rows_from t root_trail (visits_of t)

abbrev pub entry_words_of : IndexColumns → List ℕ
entry_words_of t = entry_words_from t (visits_of t)

abbrev pub bit_words_of : IndexColumns → List ℕ
bit_words_of t = records_from t root_trail (visits_of t)

-- ---- the rooms

pub record Rooms : Type 0 where
  pub nodes : List ℕ
  pub entries : List ℕ
  pub bits : List ℕ

abbrev pub rooms_of : List ℕ → List ℕ → List ℕ → Rooms
rooms_of nodes entries bits = record { nodes = nodes; entries = entries; bits = bits }

-- those of an index
abbrev pub rooms_in : lent.Index → Rooms
rooms_in x = rooms_of x.nodes.now x.entries.now x.bits.now

-- ---- what writing asks, and what counting, writing and checking leave

pub record Counted (t : IndexColumns) (s : Sizes) : Type 0 where
  pub nodes : s.nodes ≡ node_count_of t
  pub entries : s.entries ≡ entry_count_of t
  pub records : s.bits ≡ record_count_of t

pub record WriteAsks (t : IndexColumns) (all : ℕ) (rooms : Rooms) : Type 0 where
  pub count : all ≡ node_count_of t
  pub row_room : node_count_of t * 8 ≤ length rooms.nodes
  pub entry_room : entry_count_of t * 4 ≤ length rooms.entries
  pub record_room : record_count_of t * 2 ≤ length rooms.bits

pub record WroteAll (t : IndexColumns) (rooms rooms' : Rooms) : Type 0 where
  pub rows_now : rooms'.nodes ≡ over rooms.nodes 0 (node_words_of t)
  pub entries_now : rooms'.entries ≡ over rooms.entries 0 (entry_words_of t)
  pub records_now : rooms'.bits ≡ over rooms.bits 0 (bit_words_of t)

abbrev pub has_words : IndexColumns → Rooms → Bool
has_words t rooms = every (begins (node_words_of t) rooms.nodes ∷ begins (entry_words_of t) rooms.entries ∷ begins (bit_words_of t) rooms.bits ∷ [])

-- how many there are of each, if the rooms begin with all words
pub record ComparesAll (t : IndexColumns) (rooms : Rooms) (v : Option Sizes) : Type 0 where
  pub same : (s : Sizes) → v ≡ Some s → (has_words t rooms ≡ true) × Counted t s
  pub different : v ≡ None → has_words t rooms ≡ false

-- the first so many ranked are regions
pub record HeldAsks (ranked : List ℕ) (held : ℕ) : Type 0 where
  pub size : Sized ranked
  pub few : held ≤ 64
  pub small : (k : ℕ) → k < held → at ranked k < 64

-- ---- a turn at a node

abbrev pub visit_of : Cursor → Visit
visit_of c = record { stand = c.stand.0; length = c.length }

-- what the first turn works in: nothing lies above, and nothing is in the slots
abbrev pub blank_work : List ℕ → Work
blank_work next =
    record { next = next; above = above_of none_yet none_yet none_yet; places = replicate 64 0; best = replicate 64 0; ranked = replicate 64 0 }

-- the entries of the first so many regions ranked in it
abbrev pub entries_held : Work → ℕ → List Entry
entries_held w held = entries_from w.best w.next w.places w.ranked held

abbrev pub trail_of : Cursor → Work → Trail
trail_of c w = record { number = c.number.0; entries = c.entries; records = c.records; above = w.above }

pub record Scratch (w : Work) : Type 0 where
  pub long : Long w.above
  pub places_size : Sized w.places
  pub best_size : Sized w.best
  pub ranked_size : Sized w.ranked

-- the cursor is at a node, and what is lent beside it is right for it
pub record Standing (t : IndexColumns) (c : Cursor) (w : Work) : Type 0 where
  pub on : On t.lengths t.shared c
  pub low : c.number.0 < 24577
  pub few : c.entries ≤ 64 * c.number.0
  pub fewer : c.records ≤ c.number.0
  pub next_is : w.next ≡ places_at t.region c.stand.0
  pub scratch : Scratch w

-- r is the cursor past c, and what is lent beside it is right for r
pub record Moved (t : IndexColumns) (c : Cursor) (w : Work) (r : Cursor) (w' : Work) : Type 0 where
  pub stepped : Stepped t.lengths t.shared c (length (entries_at t (visit_of c))) (kept_of (served_at t (trail_of c w) (visit_of c))) r
  pub next_is : w'.next ≡ places_at t.region r.stand.0
  pub trail : trail_of r w' ≡ trail_past t (trail_of c w) (visit_of c)
  pub scratch : Scratch w'

-- the rooms have place for the node's words
pub record Room (t : IndexColumns) (c : Cursor) (w : Work) (rooms : Rooms) : Type 0 where
  pub row_room : c.number.0 * 8 + 8 ≤ length rooms.nodes
  pub entry_room : c.entries * 4 + length (entries_at t (visit_of c)) * 4 ≤ length rooms.entries
  pub record_room : c.records * 2 + length (own_record t (trail_of c w) (visit_of c)) ≤ length rooms.bits

-- and have them afterwards
pub record Wrote (t : IndexColumns) (c : Cursor) (w : Work) (rooms rooms' : Rooms) : Type 0 where
  pub row_now : rooms'.nodes ≡ over rooms.nodes (c.number.0 * 8) (row_of t (trail_of c w) (visit_of c))
  pub entries_now : rooms'.entries ≡ over rooms.entries (c.entries * 4) (entry_rows (entries_at t (visit_of c)))
  pub record_now : rooms'.bits ≡ over rooms.bits (c.records * 2) (own_record t (trail_of c w) (visit_of c))

-- what writing a node asks, and what it leaves
pub record PutAsks (t : IndexColumns) (c : Cursor) (w : Work) (rooms : Rooms) : Type 0 where
  pub standing : Standing t c w
  pub room : Room t c w rooms

pub record PutTurn (t : IndexColumns) (c : Cursor) (w : Work) (r : Cursor) (w' : Work) (rooms rooms' : Rooms) : Type 0 where
  pub moved : Moved t c w r w'
  pub wrote : Wrote t c w rooms rooms'

-- whether the rooms have the node's words
abbrev pub has_row : IndexColumns → Cursor → Work → Rooms → Bool
has_row t c w rooms = begins (row_of t (trail_of c w) (visit_of c)) (drop (c.number.0 * 8) rooms.nodes)

abbrev pub has_entries : IndexColumns → Cursor → Rooms → Bool
has_entries t c rooms = begins (entry_rows (entries_at t (visit_of c))) (drop (c.entries * 4) rooms.entries)

abbrev pub has_record : IndexColumns → Cursor → Work → Rooms → Bool
has_record t c w rooms = begins (own_record t (trail_of c w) (visit_of c)) (drop (c.records * 2) rooms.bits)

abbrev pub has_node : IndexColumns → Cursor → Work → Rooms → List Bool
has_node t c w rooms = has_row t c w rooms ∷ has_entries t c rooms ∷ has_record t c w rooms ∷ []

pub record Compares (t : IndexColumns) (c : Cursor) (w w' : Work) (rooms : Rooms) (v : Option Cursor) : Type 0 where
  pub same : (r : Cursor) → v ≡ Some r → (every (has_node t c w rooms) ≡ true) × Moved t c w r w'
  pub different : v ≡ None → every (has_node t c w rooms) ≡ false
