-- The words of one node, from the columns alone: its entries and its row.
use Rattle.std.specs.Prelude.{◌≡◌, cond, not, List, [], ◌∷◌, ℕ, ◌+◌, ◌-◌, ◌≤◌, ◌<◌, eqb, length}
use Rattle.std.specs.Int.{from_bool}
use Rattle.rules.specs.Indexes.{Entry}
use Rattle.node.specs.Columns.{IndexColumns, at, end_of, stands_under, grown_of, bits_among, entries_among, entries_from, Sized, Tallied, span}
use Rattle.node.specs.Visits.{Visit, places_at, above_in}
use Rattle.node.specs.declared.cursor.Cursor.{Cursor}
use Rattle.node.specs.declared.records.Served.{Served}
use Rattle.node.specs.declared.Gathered.{Gathered}
use Rattle.node.specs.declared.Work.{Work}

-- a node's last byte, of the root 0; and the number past its subtree
abbrev pub last_of : List ℕ → List ℕ → ℕ → ℕ → ℕ
last_of text starts i l = cond (eqb l 0) 0 (at text (at starts i + (l - 1)))

abbrev pub past_number : List ℕ → List ℕ → ℕ → ℕ → ℕ → ℕ → ℕ
past_number lengths shared i l e j = j + at shared i + 1 + grown_of lengths shared i e - l

-- the stands under a node
abbrev pub stands_at : List ℕ → Visit → List ℕ
stands_at shared v = stands_under shared v.stand v.length

unfoldable pub entries_at : IndexColumns → Visit → List Entry
entries_at t v = entries_among t.region t.score (places_at t.region v.stand) (stands_at t.shared v)

-- the regions of those stands, as bits
unfoldable pub bits_at : IndexColumns → Visit → ℕ
bits_at t v = bits_among t.region (stands_at t.shared v)

-- a node's words: its number is j, its parent's above, and n entries stand before its own
abbrev pub row_with : List ℕ → List ℕ → List ℕ → List ℕ → (above j n i l e : ℕ) → Served → List ℕ
row_with text starts lengths shared above j n i l e s =
    above ∷ last_of text starts i l ∷ i ∷ e ∷ past_number lengths shared i l e j ∷ s.number ∷ from_bool (not s.own) ∷ n ∷ []

-- row is that of the cursor's node, whose stands end at e
abbrev pub Rowed : IndexColumns → (path : List ℕ) → Cursor → ℕ → Served → List ℕ → Type 0
Rowed t path c e s row =
    row ≡ row_with t.text t.starts t.lengths t.shared (above_in path c.length) c.number.0 c.entries c.stand.0 c.length e s

unfoldable pub row_at : IndexColumns → (above j n i l e : ℕ) → Served → List ℕ
row_at t above j n i l e s = row_with t.text t.starts t.lengths t.shared above j n i l e s

-- what no walk over stands changes
abbrev pub Untallied : Work → Work → Type 0
Untallied w w' = (w'.next ≡ w.next) × (w'.above ≡ w.above) × (w'.ranked ≡ w.ranked)

-- what a walk over the stands first .. past - 1 leaves, and what it leaves as it was
pub record Tallies (region score : List ℕ) (first past : ℕ) (w w' : Work) (bits : ℕ) : Type 0 where
  pub tallied : Tallied region score w.next (span first past) w'.places w'.best bits
  pub kept : Untallied w w'

-- what is gathered at the cursor's node, and left in the slots
pub record Gathers (t : IndexColumns) (c : Cursor) (w w' : Work) (g : Gathered) : Type 0 where
  pub past : g.past.0 ≡ end_of t.shared c.stand.0 c.length
  pub within : g.past.0 ≤ length t.shared
  pub word : g.bits ≡ bits_among t.region (stands_under t.shared c.stand.0 c.length)
  pub entries : entries_from w'.best w.next w'.places w'.ranked g.held ≡ entries_among t.region t.score w.next (stands_under t.shared c.stand.0 c.length)
  pub count : g.held ≡ length (entries_among t.region t.score w.next (stands_under t.shared c.stand.0 c.length))
  pub few : g.held ≤ 64
  pub small : (k : ℕ) → k < g.held → at w'.ranked k < 64
  pub places_size : Sized w'.places
  pub best_size : Sized w'.best
  pub ranked_size : Sized w'.ranked
  pub kept : (w'.next ≡ w.next) × (w'.above ≡ w.above)
