-- Building into the program's rooms: 64 stands always fit, so only the table can be refused, and checking accepts what was built.
-- Assumes nothing.
use mathlib.Core.Path.{◌≡◌, sym, ap, ◌∙◌}
use mathlib.Core.Bool.{true, cond}
use mathlib.Core.Logic.{⊎_elim}
use Prim.Native.Nat.{ℕ, ◌*◌, ◌≤◌, ◌<◌}
use native.Mathlib.Omega.{arith}
use lib.ListN.{length}
use lib.Dec.{eqb}
use borrow.Table.Steps.{cases}
use borrow.Author.Tests.{le-ltb, ne_eqb, eq-eqb, eqb-true, eqb-false}
use Rattle.base.proofs.Tests.{le_or_lt}
use Rattle.rules.specs.declared.Grid.{Grid}
use Rattle.rules.specs.declared.Refusal.{Refusal}
use Rattle.rules.specs.declared.Sizes.{Sizes}
use Rattle.std.specs.Prelude.{Some, None, Ok, Err}
use Rattle.rules.specs.Numbers.{BuildTold, CheckTold, checked_numbers}
use Rattle.rules.specs.Tables.{Table, stands, table_refusal}
use Rattle.rules.specs.Indexes.{Index, node_count, entry_count, record_count, too_small, build_refusal, build_told, set_lawful, check_told}
use Rattle.rules.proofs.Lawful.{lawful, taken, set_parts}
use Rattle.rules.proofs.Numbers.{refusal_some}
use Rattle.meaning.proofs.Sizes.{sizes_bounded}
use Rattle.index.specs.Promises.{BuildPromise}
use Rattle.index.proofs.Outcomes.{build_then_check}
use Rattle.rules.proofs.Refusals.{first_given_lem}
use Rattle.desk_answer.specs.Promises.{MakesIndex}

-- the program's rooms have at least so many words
pub record Rooms (x : Index) : Type 0 where
  pub order : 64 ≤ length x.order
  pub nodes : 12296 ≤ length x.nodes
  pub entries : 6400 ≤ length x.entries
  pub bits : 254 ≤ length x.bits

module _ (t : Table) (g : Grid) where
  -- a lawful set is not told to be none
  pub never_unlawful : {A : Type 0} (x : Index) → set_lawful t g x ≡ true → checked_numbers None ≡ check_told t g x → A
  unfolding check_told
  never_unlawful x law c = let z : ◌≡◌ {A = ℕ} 0 1 = ap (λ (b : CheckTold). b.lawful) (rw law at c) in absurd (omega arith)

  module _ (x : Index) where
    -- what was built is lawful, since checking accepts it
    pub built_lawful : (s : Sizes) (y : Index) → BuildPromise t g x (Ok s) y → set_lawful t g y ≡ true
    unfolding check_told
    built_lawful s y p =
        cases (set_lawful t g y) (λ q. q) (λ q.
        let same : None ≡ Some s = build_then_check t g x s y None p (rw q) in
        cc)

    pub index-passed : (s : Sizes) (y : Index) → BuildPromise t g x (Ok s) y → MakesIndex t g (Ok tt) y
    index-passed s y p =
        let law = built_lawful s y p in
        record { refusal = sym (taken t g (set_parts t g y law).table); lawful = λ _. law }

    module _ (few : stands t ≤ 64) (rooms : Rooms x) where
      few_records : table_refusal t g ≡ 0 → record_count t g ≤ 127
      few_records e =
          let s = sizes_bounded t g (lawful t g e) in
          ⊎_elim (λ (h : stands t ≤ 0). omega (arith, (s.lone (omega arith)).2)) (λ (h : 0 < stands t). omega (arith, s.records h)) (le_or_lt (stands t) 0)

      enough : table_refusal t g ≡ 0 → build_refusal t g x ≡ 0
      unfolding build_refusal too_small
      enough e =
          let s = sizes_bounded t g (lawful t g e) in
          rw (
            e,
            le-ltb (length x.order) (stands t) (omega (arith, rooms.order)),
            le-ltb (length x.nodes) (8 * node_count t) (omega (arith, rooms.nodes, s.nodes)),
            le-ltb (length x.entries) (4 * entry_count t g) (omega (arith, rooms.entries, s.entries)),
            le-ltb (length x.bits) (2 * record_count t g) (omega (arith, rooms.bits, few_records e)),
          )

      pub index-refused : (why : Refusal) (y : Index) → BuildPromise t g x (Err why) y → MakesIndex t g (Err why) y
      unfolding build_refusal build_told
      index-refused why y b =
          record {
            refusal =
                cases (eqb (table_refusal t g) 0)
                (λ e. absurd (refusal_some why (ap (λ (a : BuildTold). a.refusal) (rw (eq-eqb (build_refusal t g x) 0 (enough (eqb-true _ _ e))) at b.told))))
                (λ e.
                let some = eqb-false _ _ e in
                let first : build_refusal t g x ≡ table_refusal t g = first_given_lem (table_refusal t g) (cond (too_small t g x) 6 0) some in
                ap (λ (a : BuildTold). a.refusal) (rw (ne_eqb (build_refusal t g x) 0 (λ z. some (sym first ∙ z))) at b.told) ∙ first);
            lawful = λ e. absurd (refusal_some why e);
          }
