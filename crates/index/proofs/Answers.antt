-- The ways out of building and checking: each answer, with the buffers that it leaves, is that of the rules.
-- Assumes nothing.
use mathlib.Core.Path.{◌≡◌, refl, sym, ◌∙◌}
use mathlib.Core.Logic.{◌⊎◌, inl, inr}
use mathlib.Core.Bool.{Bool, true, false, cond}
use mathlib.Core.List.{List, [], ◌∷◌}
use Prim.Native.Nat.{ℕ}
use native.Mathlib.Omega.{arith}
use native.Mathlib.Nat.{zero-add}
use lib.Dec.{eqb}
use lib.ListN.{length}
use borrow.Author.Tests.{ne_eqb}
use Rattle.base.specs.Lists.{every, begins, written}
use Rattle.base.proofs.Tests.{which, every_not}
use Rattle.rules.specs.declared.Grid.{Grid}
use Rattle.rules.specs.declared.Refusal.{Refusal}
use Rattle.rules.specs.declared.Refusal.TheVariants.{BufferTooSmall}
use Rattle.std.specs.Prelude.{Result, Ok, Err, Option, Some, None}
use Rattle.std.specs.Result.{result_ok}
use Rattle.rules.specs.declared.Sizes.{Sizes}
use Rattle.rules.specs.Numbers.{refusal_number, verdict_number, checked_numbers}
use Rattle.rules.specs.Tables.{Table, LawfulTable, table_refusal}
use Rattle.rules.specs.Indexes.{Index, index_of, order_words, node_words, entry_words, bit_words, too_small, build_refusal, build_told, index_after, set_lawful, check_told}
use Rattle.rules.proofs.Lawful.{granted, taken}
use Rattle.rules.proofs.Refusals.{first_given_lem}
use Rattle.rules.proofs.Numbers.{refusal_some}
use Rattle.node.specs.Columns.{IndexColumns}
use Rattle.words.specs.Over.{over, order_of}
use Rattle.words.specs.Words.{Counted, Rooms, rooms_of, WroteAll, has_words, ComparesAll}
use Rattle.index.specs.Columns.{table_columns}
use Rattle.index.specs.Promises.{BuildPromise}
use Rattle.index.specs.Written.{short_of, too_small_for, over_all, BuiltFrom, has_all, CheckedFrom}
use Rattle.index.proofs.ByStand.{regions-length}
use Rattle.index.proofs.Held.{order_words_lem}
use Rattle.index.proofs.Whole.{node_count_lem, entry_count_lem, record_count_lem, node_words_lem, entry_words_lem, bit_words_lem}

-- ---- a refusal from 1 to 5

module _ (t : Table) (g : Grid) (x : Index) (why : Refusal) (e : refusal_number why ≡ table_refusal t g) where
  -- no refusal has the number 0
  some-refusal : table_refusal t g ≡ 0 → ⊥
  some-refusal z = refusal_some why (e ∙ z)

  refused-some : eqb (table_refusal t g) 0 ≡ false
  refused-some = ne_eqb (table_refusal t g) 0 some-refusal

  refusal_is : build_refusal t g x ≡ table_refusal t g
  unfolding build_refusal
  refusal_is = first_given_lem (table_refusal t g) (cond (too_small t g x) 6 0) some-refusal

  pub refused-built : BuildPromise t g x (Err why) x
  unfolding build_told index_after
  refused-built = record { told = rw (refusal_is, refused-some, e); buffers = rw (refusal_is, refused-some) }

  pub refused-checked : checked_numbers None ≡ check_told t g x
  unfolding check_told set_lawful
  refused-checked = rw (every_not (eqb (table_refusal t g) 0 ∷ begins (order_words t g) x.order ∷ begins (node_words t g) x.nodes ∷ begins (entry_words t g) x.entries ∷ begins (bit_words t g) x.bits ∷ []) 0 refused-some)

-- by a verdict of which only that it was passed is kept
module _ (t : Table) (g : Grid) {o : Option Unit} where
  pub granted_some : (v : Result Unit Refusal) {u : Unit} → verdict_number v ≡ table_refusal t g → o ≡ result_ok v → o ≡ Some u → LawfulTable t g
  granted_some (Ok u) e p q = granted t g (Ok u) e refl
  granted_some (Err r) e p q = let z : ◌≡◌ {A = ℕ} 0 1 = cc in absurd (omega arith)

  pub refused_none : (x : Index) (v : Result Unit Refusal) → verdict_number v ≡ table_refusal t g → o ≡ result_ok v → o ≡ None → checked_numbers None ≡ check_told t g x
  refused_none x (Ok u) e p q = let z : ◌≡◌ {A = ℕ} 0 1 = cc in absurd (omega arith)
  refused_none x (Err r) e p q = refused-checked t g x r e

-- ---- past those, from the columns

over-written : (words room : List ℕ) → over room 0 words ≡ written words room
unfolding over
over-written words room = rw (zero-add (length words))

module _ (t : Table) (g : Grid) (l : LawfulTable t g) (x : Index) where
  small_is : too_small_for (table_columns t g) x ≡ too_small t g x
  unfolding too_small_for too_small
  small_is = rw (regions-length g t, node_count_lem t g l, entry_count_lem t g l, record_count_lem t g l)

  over-is : over_all (table_columns t g) x ≡ index_of (written (order_words t g) x.order) (written (node_words t g) x.nodes) (written (entry_words t g) x.entries) (written (bit_words t g) x.bits)
  unfolding over_all
  over-is = rw (order_words_lem g t, node_words_lem t g l, entry_words_lem t g l, bit_words_lem t g l) (simp over-written)

  refusal-past : build_refusal t g x ≡ cond (too_small t g x) 6 0
  unfolding build_refusal
  refusal-past = rw (taken t g l)

  pub wrote-built : (r : Result Sizes Refusal) (y : Index) → BuiltFrom (table_columns t g) x r y → BuildPromise t g x r y
  unfolding build_told index_after
  wrote-built r y w = step (which (too_small t g x))
    where
      step : (too_small t g x ≡ true) ⊎ (too_small t g x ≡ false) → BuildPromise t g x r y
      step (inl q) = record { told = w.told ∙ rw (small_is, refusal-past, q); buffers = w.buffers ∙ rw (small_is, refusal-past, q) }
      step (inr q) = record { told = w.told ∙ rw (small_is, refusal-past, q, node_count_lem t g l, entry_count_lem t g l, record_count_lem t g l); buffers = w.buffers ∙ rw (small_is, refusal-past, q) over-is }

  has-is : has_all (table_columns t g) x ≡ set_lawful t g x
  unfolding has_all set_lawful every
  has-is = rw (order_words_lem g t, node_words_lem t g l, entry_words_lem t g l, bit_words_lem t g l, taken t g l)

  pub compared-checked : (r : Option Sizes) → CheckedFrom (table_columns t g) x r → checked_numbers r ≡ check_told t g x
  unfolding check_told
  compared-checked r w = w.told ∙ rw (has-is, node_count_lem t g l, entry_count_lem t g l, record_count_lem t g l)

-- ---- the ways out past those

-- by the counts and by the test of the buffers' lengths
module _ (c : IndexColumns) (x : Index) (s : Sizes) (counted : Counted c s) (small : Bool) (tested : small ≡ short_of x (length c.region) s) where
  small-test : too_small_for c x ≡ small
  unfolding too_small_for
  small-test = sym (tested ∙ rw (counted.nodes, counted.entries, counted.records))

  pub no_room : small ≡ true → BuiltFrom c x (Err BufferTooSmall) x
  no_room q = record { told = rw (small-test, q); buffers = rw (small-test, q) }

  pub wrote : small ≡ false → (order' : List ℕ) (rooms : Rooms) → order' ≡ over x.order 0 (order_of c.region) → WroteAll c (rooms_of x.nodes x.entries x.bits) rooms
      → BuiltFrom c x (Ok s) (index_of order' rooms.nodes rooms.entries rooms.bits)
  unfolding over_all
  wrote q order' rooms o w =
      record { told = rw (small-test, q, counted.nodes, counted.entries, counted.records); buffers = rw (small-test, q, o, w.rows_now, w.entries_now, w.records_now) }

-- by the order and by the nodes with their entries and records, which are compared one after the other
module _ (c : IndexColumns) (x : Index) (ordered : Bool) (tested : ordered ≡ begins (order_of c.region) x.order) where
  pub other-order : ordered ≡ false → CheckedFrom c x None
  unfolding has_all
  other-order q = record { told = rw (every_not _ 0 (sym tested ∙ q)) }

  module _ (q : ordered ≡ true) where
    has-test : has_all c x ≡ has_words c (rooms_of x.nodes x.entries x.bits)
    unfolding has_all every
    has-test = rw (sym tested ∙ q)

    pub compared_all : (v : Option Sizes) → ComparesAll c (rooms_of x.nodes x.entries x.bits) v → CheckedFrom c x v
    compared_all None compared = record { told = rw (has-test, compared.different refl) }
    compared_all (Some s) compared = let w = compared.same s refl in record { told = rw (has-test, w.0, w.1.nodes, w.1.entries, w.1.records) }
