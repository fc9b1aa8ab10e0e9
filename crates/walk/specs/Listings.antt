-- Where a text's stands are listed: as the code reads it on any words, and by the rules.
use Rattle.std.specs.Prelude.{cond, List, ℕ, ◌+◌, ◌*◌, ◌/◌, leb, ltb, length, get_or, Option, Some, None, Result, Ok, Err}
use Rattle.rules.specs.declared.Broken.{Broken}
use Rattle.rules.specs.declared.Grid.{Grid}
use Rattle.rules.specs.Tables.{Table}
use Rattle.rules.specs.Indexes.{beginnings, number_in, node_row, occupied}
use Rattle.grid.specs.declared.cells.Cells.{Cells}
use Rattle.grid.specs.Cells.{cells_by}
use Rattle.walk.specs.declared.listing.Listing.{Listing}
use Rattle.walk.specs.Walks.{Child, broken, node_word}

-- what a listing says: the regions that have an entry, and the number of the first entry; none where no name begins so
abbrev pub Listed : Type 0
Listed = Result (Option Listing) Broken

abbrev pub entries : Cells → ℕ → Listed
entries regions first = Ok (Some (record { regions = regions; first = first }))

-- the bit record that serves a node, word k of one, and its regions
abbrev pub record_at : List ℕ → ℕ → ℕ
record_at nodes j = node_word nodes j 5

abbrev pub record_word : List ℕ → ℕ → ℕ → ℕ
record_word bits n k = get_or bits (n * 2 + k) 0

abbrev pub cells_at : List ℕ → ℕ → Cells
cells_at bits n = record { low = record_word bits n 0; high = record_word bits n 1 }

abbrev pub first_entry : List ℕ → ℕ → ℕ
first_entry nodes j = node_word nodes j 7

-- of a node
unfoldable pub listing_in : (nodes bits : List ℕ) → ℕ → Listed
listing_in nodes bits j =
    cond (leb (length nodes / 8) j) (Err broken)
    (cond (leb (length bits / 2) (record_at nodes j)) (Err broken)
    (entries (cells_at bits (record_at nodes j)) (first_entry nodes j)))

-- of where a walk came to
abbrev pub listing_at : (nodes bits : List ℕ) → Child → Listed
listing_at nodes bits (Ok (Some n)) = listing_in nodes bits n.0
listing_at nodes bits (Ok None) = Ok None
listing_at nodes bits (Err e) = Err e

-- by the rules: the regions that hold a stand under the text, and the first entry of its node
abbrev pub listing_of : Table → Grid → List ℕ → Listed
listing_of t g p =
    let j : ℕ = number_in p (beginnings t) in
    cond (ltb j (length (beginnings t))) (entries (cells_by (occupied t g p)) (get_or (node_row t g j) 7 0)) (Ok None)
