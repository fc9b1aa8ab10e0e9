-- For the reader: no two outcomes satisfy what building or checking promises; checking accepts what building wrote, and building leaves
-- alone what checking accepts, with the same counts; an empty table has one node, no entry and one bit record. Assumes nothing.
use mathlib.Core.Path.{◌≡◌, sym, ap, ◌∙◌}
use mathlib.Core.Logic.{◌⊎◌, inl, inr}
use mathlib.Core.Bool.{true, false, cond}
use mathlib.Core.List.{List, ◌++◌}
use Prim.Native.Nat.{ℕ, ◌*◌}
use native.Mathlib.Omega.{arith}
use lib.Dec.{eqb}
use lib.ListN.{length, drop, take-append-drop}
use borrow.Author.Tests.{eqb-true, eq-eqb, le-ltb}
use Rattle.base.specs.Lists.{begins, written}
use Rattle.base.proofs.Tests.{which, never, every-at, every_of}
use Rattle.base.proofs.Begins.{begins-append, begins_is_take, begins-length}
use Rattle.rules.specs.declared.Grid.{Grid}
use Rattle.std.specs.Prelude.{Result, Ok, Option, Some}
use Rattle.rules.specs.declared.Refusal.{Refusal}
use Rattle.rules.specs.declared.Sizes.{Sizes}
use Rattle.rules.specs.Numbers.{BuildTold, CheckTold, checked_numbers}
use Rattle.rules.specs.Tables.{Table, stands, table_refusal}
use Rattle.rules.specs.Indexes.{Index, index_of, order_words, node_words, entry_words, bit_words, node_count, entry_count, record_count, too_small, build_refusal, build_told, index_after, set_lawful, check_told}
use Rattle.rules.proofs.Lawful.{lawful}
use Rattle.rules.proofs.Refusals.{first_none}
use Rattle.rules.proofs.Numbers.{one_built, one_checked}
use Rattle.meaning.proofs.Listing.{order_means}
use Rattle.meaning.proofs.Records.{bit_words_length}
use Rattle.meaning.proofs.Words.{nodes_length, entry_words_length}
use Rattle.meaning.proofs.Sizes.{sizes_bounded}
use Rattle.index.specs.Promises.{BuildPromise}

-- ---- no two outcomes

module _ (t : Table) (g : Grid) (x : Index) where
  pub one_building : (r s : Result Sizes Refusal) (y z : Index) → BuildPromise t g x r y → BuildPromise t g x s z → (r ≡ s) × (y ≡ z)
  one_building r s y z p q = (one_built r s (p.told ∙ sym q.told), p.buffers ∙ sym q.buffers)

  pub one_checking : (r s : Option Sizes) → checked_numbers r ≡ check_told t g x → checked_numbers s ≡ check_told t g x → r ≡ s
  one_checking r s p q = one_checked r s (p ∙ sym q)

-- ---- an index that was built

-- what stands at the start of a room already is not changed by writing it there
written_again : (words room : List ℕ) → begins words room ≡ true → written words room ≡ room
written_again words room h =
    ap (λ (w : List ℕ). w ++ drop (length words) room) (begins_is_take words room h) ∙ take-append-drop (length words) room

module _ (t : Table) (g : Grid) (x : Index) where
  abbrev written_all : Index
  written_all = index_of (written (order_words t g) x.order) (written (node_words t g) x.nodes) (written (entry_words t g) x.entries) (written (bit_words t g) x.bits)

  -- what an answer with counts says
  record Succeeded (s : Sizes) (y : Index) : Type 0 where
    pub table : table_refusal t g ≡ 0
    pub nodes : s.nodes ≡ node_count t
    pub entries : s.entries ≡ entry_count t g
    pub records : s.bits ≡ record_count t g
    pub buffers : y ≡ written_all

  succeeded : (s : Sizes) (y : Index) → BuildPromise t g x (Ok s) y → Succeeded s y
  unfolding build_told index_after build_refusal
  succeeded s y p = step (which (eqb (build_refusal t g x) 0))
    where
      step : (eqb (build_refusal t g x) 0 ≡ true) ⊎ (eqb (build_refusal t g x) 0 ≡ false) → Succeeded s y
      step (inl q) =
          record {
            table = (first_none (table_refusal t g) (cond (too_small t g x) 6 0) (eqb-true (build_refusal t g x) 0 q)).0;
            nodes = ap (λ (b : BuildTold). b.nodes) (rw q at p.told);
            entries = ap (λ (b : BuildTold). b.entries) (rw q at p.told);
            records = ap (λ (b : BuildTold). b.bits) (rw q at p.told);
            buffers = rw q at p.buffers;
          }
      step (inr q) = let z : 0 ≡ build_refusal t g x = ap (λ (b : BuildTold). b.refusal) (rw q at p.told) in never _ (eq-eqb (build_refusal t g x) 0 (sym z)) q

  -- checking accepts what building wrote, with the same counts
  pub build_then_check : (s : Sizes) (y : Index) (r : Option Sizes) → BuildPromise t g x (Ok s) y → checked_numbers r ≡ check_told t g y → r ≡ Some s
  unfolding check_told set_lawful
  build_then_check sizes y r p c =
      let s = succeeded sizes y p in
      let has : set_lawful t g written_all ≡ true =
      every_of _ (
        eq-eqb (table_refusal t g) 0 s.table,
        (begins-append (order_words t g) _, (begins-append (node_words t g) _, (begins-append (entry_words t g) _, (begins-append (bit_words t g) _, tt)))),
      ) in
      one_checked r (Some sizes) (c ∙ rw (s.buffers, has, s.nodes, s.entries, s.records))

  -- ---- an index that was checked

  -- its buffers are not too small, and writing the words again changes nothing
  lawful_stays : set_lawful t g x ≡ true → (build_refusal t g x ≡ 0) × (index_after t g x ≡ x)
  unfolding set_lawful too_small build_refusal index_after
  lawful_stays h =
      let table : table_refusal t g ≡ 0 = eqb-true (table_refusal t g) 0 (every-at _ 0 h) in
      let order : begins (order_words t g) x.order ≡ true = every-at _ 1 h in
      let nodes : begins (node_words t g) x.nodes ≡ true = every-at _ 2 h in
      let entries : begins (entry_words t g) x.entries ≡ true = every-at _ 3 h in
      let bits : begins (bit_words t g) x.bits ≡ true = every-at _ 4 h in
      let l = lawful t g table in
      let none : build_refusal t g x ≡ 0 =
      rw (
        table,
        le-ltb (length x.order) (stands t) (omega (arith, begins-length (order_words t g) x.order order, (order_means t g l).whole)),
        le-ltb (length x.nodes) (8 * node_count t) (omega (arith, begins-length (node_words t g) x.nodes nodes, nodes_length t g)),
        le-ltb (length x.entries) (4 * entry_count t g) (omega (arith, begins-length (entry_words t g) x.entries entries, entry_words_length t g)),
        le-ltb (length x.bits) (2 * record_count t g) (omega (arith, begins-length (bit_words t g) x.bits bits, bit_words_length t g)),
      ) in
      (none, rw (eq-eqb (build_refusal t g x) 0 none) (rw (written_again (order_words t g) x.order order, written_again (node_words t g) x.nodes nodes, written_again (entry_words t g) x.entries entries, written_again (bit_words t g) x.bits bits)))

  -- so building answers the same counts and leaves the buffers as they are
  pub check_then_build : (s : Sizes) (r : Result Sizes Refusal) (y : Index) → checked_numbers (Some s) ≡ check_told t g x → BuildPromise t g x r y
      → (r ≡ Ok s) × (y ≡ x)
  unfolding check_told build_told
  check_then_build sizes r y c p = step (which (set_lawful t g x))
    where
      step : (set_lawful t g x ≡ true) ⊎ (set_lawful t g x ≡ false) → (r ≡ Ok sizes) × (y ≡ x)
      step (inl q) =
          let s = lawful_stays q in
          let nodes : sizes.nodes ≡ node_count t = ap (λ (b : CheckTold). b.nodes) (rw q at c) in
          let entries : sizes.entries ≡ entry_count t g = ap (λ (b : CheckTold). b.entries) (rw q at c) in
          let records : sizes.bits ≡ record_count t g = ap (λ (b : CheckTold). b.bits) (rw q at c) in
          (one_built r (Ok sizes) (p.told ∙ rw (eq-eqb (build_refusal t g x) 0 s.0, nodes, entries, records)), p.buffers ∙ s.1)
      step (inr q) = let z : ◌≡◌ {A = ℕ} 1 0 = ap (λ (b : CheckTold). b.lawful) (rw q at c) in absurd (omega arith)

  -- ---- an empty table

  pub build_empty : (s : Sizes) (y : Index) → stands t ≡ 0 → BuildPromise t g x (Ok s) y → (s.nodes ≡ 1) × (s.entries ≡ 0) × (s.bits ≡ 1)
  build_empty sizes y z p =
      let s = succeeded sizes y p in
      let m = (sizes_bounded t g (lawful t g s.table)).lone z in
      (s.nodes ∙ m.0, s.entries ∙ m.1, s.records ∙ m.2)
