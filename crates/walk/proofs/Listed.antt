-- A text's listing: the ways that it is read; that on the words that building writes it is the one of the rules; and what that lists.
-- Assumes nothing.
use mathlib.Core.Path.{◌≡◌, refl, sym, ap, ap₂, ◌∙◌, subst}
use mathlib.Core.Logic.{⊎_elim}
use mathlib.Core.List.{List, []}
use Prim.Native.Nat.{ℕ, ◌+◌, ◌*◌, ◌/◌, ◌≤◌, ◌<◌}
use native.Mathlib.Omega.{arith}
use lib.ListN.{length, get_or}
use borrow.Author.Tests.{lt-ltb, le-ltb, lt-leb}
use Rattle.std.specs.Prelude.{None, Ok, Err}
use Rattle.base.specs.Lists.{In, begins, each, up_to}
use Rattle.base.proofs.Tests.{refuted}
use Rattle.base.proofs.Members.{keep_none}
use Rattle.base.proofs.Runs.{in_from}
use Rattle.base.proofs.Begins.{begins-length, begins-at, in_or_out}
use Rattle.rules.specs.declared.Grid.{Grid}
use Rattle.rules.specs.Tables.{Table, stands, name_of}
use Rattle.rules.specs.Questions.{under}
use Rattle.rules.specs.Indexes.{Index, beginnings, number_in, node_row, occupied, entries_of, record_of, record_row, bit_words}
use Rattle.rules.proofs.Lawful.{SetParts}
use Rattle.grid.specs.declared.cells.Cells.{Cells}
use Rattle.grid.specs.Cells.{cells_by, regions_in}
use Rattle.grid.proofs.Listed.{listed_by}
use Rattle.meaning.proofs.Tree.{number_in_lem, number_out}
use Rattle.meaning.proofs.Tables.{beginnings_of}
use Rattle.meaning.proofs.Words.{entries_length}
use Rattle.meaning.proofs.Records.{record_less, record_word_lem, bit_words_length}
use Rattle.walk.specs.declared.listing.Listing.{Listing}
use Rattle.walk.specs.Walks.{broken, node_in}
use Rattle.walk.specs.Nodes.{node_of}
use Rattle.walk.specs.Listings.{entries, record_word, cells_at, listing_in, listing_at, listing_of}
use Rattle.walk.specs.Entries.{as_read, SpelledFrom}
use Rattle.walk.proofs.Lawful.{node_of_in, node_of_out, node_row_lem, nodes_within, node_found}
use Rattle.walk.proofs.Spelled.{entries_spelled}

-- ---- by the rules

-- of one listing
one_listing : {regions cells : Cells} {first number : ℕ} → entries regions first ≡ entries cells number → (regions ≡ cells) × (first ≡ number)
one_listing {regions} {cells} {first} {number} e =
    let same : ◌≡◌ {A = Listing} (record { regions = regions; first = first }) (record { regions = cells; first = number }) = cc e in
    (ap (λ (l : Listing). l.regions) same, ap (λ (l : Listing). l.first) same)

module _ (t : Table) (g : Grid) (p : List ℕ) where
  listing_in_lem : In p (beginnings t) → listing_of t g p ≡ entries (cells_by (occupied t g p)) (get_or (node_row t g (number_in p (beginnings t))) 7 0)
  listing_in_lem h = rw (lt-ltb (number_in p (beginnings t)) (length (beginnings t)) (number_in_lem p (beginnings t) h).0)

  listing_out : (In p (beginnings t) → ⊥) → listing_of t g p ≡ Ok None
  listing_out h =
      let e = number_out p (beginnings t) h in
      rw (le-ltb (number_in p (beginnings t)) (length (beginnings t)) (omega arith))

  -- a text that begins no name has no stand under it
  under_none : (In p (beginnings t) → ⊥) → under t p ≡ []
  unfolding under
  under_none out =
      keep_none (λ i. begins p (name_of t i)) (up_to (stands t))
      (λ i k. refuted (begins p (name_of t i)) (λ b. out (beginnings_of t i p (omega (arith, in_from 0 (stands t) i k)) b)))

  pub nowhere_none : listing_of t g p ≡ Ok None → under t p ≡ []
  nowhere_none e = ⊎_elim (λ h. let z : ◌≡◌ {A = ℕ} 0 1 = cc (e, listing_in_lem h) in absurd (omega arith)) under_none (in_or_out p (beginnings t))

  pub never_broken : listing_of t g p ≡ Err broken → ⊥
  never_broken e =
      ⊎_elim
      (λ h. let z : ◌≡◌ {A = ℕ} 0 1 = cc (e, listing_in_lem h) in omega arith)
      (λ h. let z : ◌≡◌ {A = ℕ} 0 1 = cc (e, listing_out h) in omega arith)
      (in_or_out p (beginnings t))

-- what a listing of entries is, in a lawful set: the entries of the rules, as many as there are regions
pub record Lists (t : Table) (g : Grid) (x : Index) (p : List ℕ) (cells : Cells) (first : ℕ) : Type 0 where
  pub regions : cells ≡ cells_by (occupied t g p)
  pub many : length (regions_in cells) ≡ length (entries_of t g p)
  pub spelled : (places : ℕ) → stands t ≤ places → SpelledFrom x.entries places first (each as_read (entries_of t g p))

module _ (t : Table) (g : Grid) (x : Index) (s : SetParts t g x) (p : List ℕ) where
  in_lists : In p (beginnings t) → Lists t g x p (cells_by (occupied t g p)) (get_or (node_row t g (number_in p (beginnings t))) 7 0)
  in_lists h =
      let n = number_in_lem p (beginnings t) h in
      record {
        regions = refl;
        many = ap length (listed_by (occupied t g p)) ∙ sym (entries_length t g p);
        spelled = λ places most.
            subst (λ (q : List ℕ). SpelledFrom x.entries places (get_or (node_row t g (number_in p (beginnings t))) 7 0) (each as_read (entries_of t g q))) n.1
            (entries_spelled t g x s (number_in p (beginnings t)) n.0 places most);
      }

  pub entries_listed : (cells : Cells) (first : ℕ) → listing_of t g p ≡ entries cells first → Lists t g x p cells first
  entries_listed cells first e =
      ⊎_elim
      (λ h.
      let same = one_listing (sym (listing_in_lem t g p h) ∙ e) in
      rw (same.0, same.1) at (in_lists h))
      (λ h. let z : ◌≡◌ {A = ℕ} 0 1 = cc (e, listing_out t g p h) in absurd (omega arith))
      (in_or_out p (beginnings t))

  -- ---- the words that building writes

  -- the record that serves the text's node is there, and has the text's regions
  record_within : In p (beginnings t) → record_of t g p < length x.bits / 2
  record_within h = omega (arith, record_less t g s.table.ordered p h, bit_words_length t g, begins-length (bit_words t g) x.bits s.bits)

  record_cells : In p (beginnings t) → cells_at x.bits (record_of t g p) ≡ cells_by (occupied t g p)
  unfolding cells_by
  record_cells h =
      let word : (k : ℕ) → k < 2 → record_word x.bits (record_of t g p) k ≡ get_or (record_row t g p) k 0 = λ k l.
      begins-at (bit_words t g) x.bits (record_of t g p * 2 + k) 0 s.bits (omega (arith, bit_words_length t g, record_less t g s.table.ordered p h))
      ∙ record_word_lem t g s.table.ordered p k h l in
      ap₂ (λ (low high : ℕ). record { low = low; high = high }) (word 0 (omega arith)) (word 1 (omega arith))

  -- from the text's node, if it has one
  pub listing_reached : listing_at x.nodes x.bits (node_of t p) ≡ listing_of t g p
  unfolding listing_in
  listing_reached =
      ⊎_elim
      (λ (h : In p (beginnings t)).
      let j = number_in p (beginnings t) in
      let n = number_in_lem p (beginnings t) h in
      let written = s.nodes in
      ap (listing_at x.nodes x.bits) (node_of_in t p h)
      ∙ rw (
        lt-leb (length x.nodes / 8) j (omega (arith, nodes_within t g x.nodes written, n.0)),
        node_row_lem t g x.nodes written j 5 n.0 (omega arith),
        node_row_lem t g x.nodes written j 7 n.0 (omega arith),
        n.1,
        lt-leb (length x.bits / 2) (record_of t g p) (record_within h),
        record_cells h,
      )
      (sym (listing_in_lem t g p h)))
      (λ h. ap (listing_at x.nodes x.bits) (node_of_out t p h) ∙ sym (listing_out t g p h))
      (in_or_out p (beginnings t))

  -- by a walk along the text
  pub listing_found : listing_at x.nodes x.bits (node_in x.nodes p) ≡ listing_of t g p
  listing_found = ap (listing_at x.nodes x.bits) (node_found t g x.nodes s.nodes s.table.ordered p) ∙ listing_reached
