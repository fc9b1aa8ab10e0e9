-- At a lawful set the search through a text's listing holds the k best of the stands under the text: its entries have them all, each once.
-- Assumes nothing.
use mathlib.Core.Path.{◌≡◌, sym, ap, ◌∙◌, subst}
use mathlib.Core.List.{List, [], ◌++◌, append-nil}
use Prim.Native.Nat.{ℕ, ◌≤◌, ◌<◌}
use native.Mathlib.Omega.{arith}
use lib.ListN.{length}
use Rattle.std.specs.Prelude.{Ok}
use Rattle.base.specs.Lists.{In, each, each_list, up_to}
use Rattle.base.proofs.Members.{length-each, in-each, each-each, each_list-each, each_list-keep, empty_of}
use Rattle.base.proofs.Begins.{begins-length}
use Rattle.base.proofs.Shuffles.{Shuffle, shuffle_each, shuffle_each_list, sort_shuffle}
use Rattle.base.proofs.Shuffles as shuffles
use Rattle.rules.specs.declared.Grid.{Grid}
use Rattle.rules.specs.declared.Ranking.{Ranking}
use Rattle.rules.specs.Places.{regions}
use Rattle.rules.specs.Tables.{Table, stands, LawfulTable}
use Rattle.rules.specs.Questions.{under, by_region, hit_of}
use Rattle.rules.specs.Indexes.{Index, order_words, occupied, regions_under, entry_of, ahead, entries_of}
use Rattle.rules.specs.Indexes as indexes
use Rattle.rules.proofs.Lawful.{SetParts}
use Rattle.grid.specs.declared.cells.Cells.{Cells}
use Rattle.grid.specs.Cells.{regions_in}
use Rattle.meaning.proofs.Tables.{in-under}
use Rattle.meaning.proofs.Regions.{by_region_shuffle}
use Rattle.meaning.proofs.Listing.{stands_in, order_means}
use Rattle.walk.specs.declared.entry.Entry.{Entry}
use Rattle.walk.specs.Entries.{as_read}
use Rattle.walk.specs.Listings.{entries, listing_of}
use Rattle.walk.proofs.Listed.{entries_listed}
use Rattle.best.specs.Keys.{key_of}
use Rattle.best.specs.Holds.{best_of}
use Rattle.best.proofs.Streams.{none_seen, in_any_order}
use Rattle.search.specs.Searches.{table_columns, entries_taken}
use Rattle.ranked.proofs.Offers.{Sound, key_in, entries_best}
use Rattle.ranked.proofs.Entries.{entry_sound}

-- the entries of a text have the stands under it, each once, in another order
all-stands : (t : Table) (g : Grid) → LawfulTable t g → (p : List ℕ) → Shuffle (each_list (λ e. stands_in t g p e.region) (entries_of t g p)) (under t p)
all-stands t g l p =
    let of : indexes.Entry → List ℕ = λ e. stands_in t g p e.region in
    let by-region : each_list of (each (entry_of t g p) (regions_under t g p)) ≡ by_region g t (under t p) =
    each_list-each of (entry_of t g p) (regions_under t g p)
    ∙ sym (each_list-keep (stands_in t g p) (occupied t g p) (up_to regions) (λ r q. empty_of (stands_in t g p r) q)) in
    shuffles.next (shuffle_each_list of (sort_shuffle ahead (each (entry_of t g p) (regions_under t g p))))
    (subst (λ (s : List ℕ). Shuffle s (under t p)) (sym by-region) (by_region_shuffle t g l (under t p) (λ i h. (in-under t p i h).0)))

module _ (t : Table) (g : Grid) (x : Index) (s : SetParts t g x) (p : List ℕ) (q : Ranking) where
  abbrev listed : List Entry
  listed = each as_read (entries_of t g p)

  of : Entry → List ℕ
  of y = stands_in t g p y.region

  all_sound : (y : Entry) → In y listed → Sound (table_columns t) g q x.order (of y) y
  unfolding of
  all_sound y h =
      let e = in-each as_read (entries_of t g p) y h in
      subst (λ (y : Entry). Sound (table_columns t) g q x.order (stands_in t g p y.region) y) (sym e.2)
      (entry_sound t g s.table x.order s.order q p e.0 e.1)

  -- the keys seen are those of the stands under the text
  seen : Shuffle (each (key_in (table_columns t) g q) (each_list of listed) ++ []) (each key_of (each (hit_of t g q) (under t p)))
  unfolding of
  seen =
      let key = key_in (table_columns t) g q in
      subst (λ (l : List ℕ). Shuffle l (each key_of (each (hit_of t g q) (under t p))))
      (sym (append-nil (each key (each_list of listed)) ∙ ap (each key) (each_list-each of as_read (entries_of t g p))))
      (subst (λ (l : List ℕ). Shuffle (each key (each_list (λ e. of (as_read e)) (entries_of t g p))) l) (sym (each-each key_of (hit_of t g q) (under t p)))
      (shuffle_each key (all-stands t g s.table p)))

  pub listed_best : 0 < q.k → (regions : Cells) (first : ℕ) → listing_of t g p ≡ entries regions first
      → entries_taken (table_columns t) g q x.order x.entries (length (regions_in regions)) first [] ≡ Ok (best_of q.k (each key_of (each (hit_of t g q) (under t p))))
  listed_best some regions first e =
      let l = entries_listed t g x s p regions first e in
      let most : stands t ≤ length x.order = omega (arith, (order_means t g s.table).whole, begins-length (order_words t g) x.order s.order) in
      ap (λ (n : ℕ). entries_taken (table_columns t) g q x.order x.entries n first []) (l.many ∙ sym (length-each as_read (entries_of t g p)))
      ∙ ap (entries_taken (table_columns t) g q x.order x.entries (length listed) first) (none_seen q.k)
      ∙ entries_best (table_columns t) g q some x.order x.entries of listed first [] (l.spelled (length x.order) most) all_sound
      ∙ ap Ok (in_any_order q.k seen)
