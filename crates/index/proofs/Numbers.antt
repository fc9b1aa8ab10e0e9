-- A node's stands, its last byte and the end of its subtree: by the columns they are the definitions'.
-- Assumes nothing.
use mathlib.Core.Path.{◌≡◌, refl, sym, ap, ◌∙◌}
use mathlib.Core.Bool.{false}
use mathlib.Core.List.{List, []}
use Prim.Native.Nat.{ℕ, zero, suc, ◌+◌, ◌-◌, ◌≤◌, ◌<◌}
use native.Mathlib.Omega.{arith}
use native.Mathlib.Numerals.{add-one}
use native.Mathlib.Nat.{add-zero}
use lib.Dec.{eqb}
use lib.ListN.{length, take}
use lib.Seq.{length-take-le}
use borrow.Author.Tests.{ne_eqb}
use Rattle.base.specs.Lists.{up_to, first_of}
use Rattle.base.proofs.Runs.{length_from}
use Rattle.base.proofs.Begins.{shared_le_other, shared_length-take}
use Rattle.rules.specs.declared.Grid.{Grid}
use Rattle.rules.specs.Tables.{Table, stands, name_of, LawfulTable}
use Rattle.rules.specs.Questions.{under}
use Rattle.rules.specs.Indexes.{beginnings, number_in, last_byte, past_of}
use Rattle.meaning.specs.Adding as added
use Rattle.meaning.specs.Adding.{shared_at}
use Rattle.meaning.proofs.Tables.{under_all, under-run, past-root}
use Rattle.meaning.proofs.Adding.{nodes_step, nodes_all, node_number, first_stand, past-stand, past-node, last_take}
use Rattle.node.specs.Columns.{end_of, span, grown_of}
use Rattle.node.specs.Visits.{grown_before}
use Rattle.node.specs.Rows.{last_of, past_number}
use Rattle.node.proofs.Ends.{span_none, grown_last}
use Rattle.index.specs.Columns.{lengths_of, shared_of}
use Rattle.index.proofs.ByStand.{shared_length_lem, lengths_at, shared_at_lem, name_byte, columns_lawful}
use Rattle.index.proofs.Blocks.{Block, block, end_all}

pub number_root : (t : Table) → number_in [] (beginnings t) ≡ 0
unfolding beginnings
number_root t = refl

module _ (t : Table) (g : Grid) (l : LawfulTable t g) where
  -- ---- how many nodes stands make

  -- before i + d are those before i and those of the d stands from i on
  nodes_from : (i d : ℕ) → i + d ≤ stands t → added.nodes_before t (i + d) ≡ added.nodes_before t i + grown_of (lengths_of t) (shared_of t) i (i + d)
  unfolding grown_of
  nodes_from i zero h = rw (add-zero i, span_none i) (omega arith)
  nodes_from i (suc d) h =
      let n = i + d in
      let e : i + suc d ≡ suc n = omega arith in
      rw (e, ← add-one n)
      (omega (arith, nodes_step t n, ap (added.nodes_before t) (add-one n), nodes_from i d (omega arith), grown_last (lengths_of t) (shared_of t) i n (omega arith), lengths_at t n (omega arith), shared_at_lem t n (omega arith)))

  nodes_add : (i e : ℕ) → i ≤ e → e ≤ stands t → added.nodes_before t e ≡ added.nodes_before t i + grown_of (lengths_of t) (shared_of t) i e
  nodes_add i e h k = let q : i + (e - i) ≡ e = omega arith in rw q at (nodes_from i (e - i) (omega arith))

  nodes_same : (e : ℕ) → e ≤ stands t → added.nodes_before t e ≡ grown_before (lengths_of t) (shared_of t) e
  nodes_same e h = omega (arith, nodes_add 0 e (omega arith) h)

  -- ---- the stands under the node of stand i's first k bytes

  module _ (i k : ℕ) (h : i < stands t) (u : k ≤ length (name_of t i)) where
    abbrev e : ℕ
    e = end_of (shared_of t) i k

    b : Block (shared_of t) i k e
    b = block (shared_of t) i k (omega (arith, shared_length_lem t))

    -- all in the block begin alike
    alike : (d : ℕ) → i + d < e → (take k (name_of t (i + d)) ≡ take k (name_of t i)) × (k ≤ length (name_of t (i + d)))
    alike zero v = let z : i + 0 ≡ i = omega arith in rw z (refl, u)
    alike (suc d) v =
        let r = alike d (omega arith) in
        let s : i + suc d ≡ suc (i + d) = omega arith in
        let n : suc (i + d) < stands t = omega (arith, b.within, shared_length_lem t) in
        let c : k ≤ shared_at t (suc (i + d)) = omega (arith, b.inside (suc (i + d)) (omega arith) (omega arith), shared_at_lem t (suc (i + d)) n) in
        rw s
        (sym (shared_length-take (name_of t (i + d)) (name_of t (suc (i + d))) k c) ∙ r.0, omega (arith, shared_le_other (name_of t (i + d)) (name_of t (suc (i + d)))))

    -- where they end, and where the node's subtree does: past the last of them
    ends : (first_of (under t (take k (name_of t i))) + length (under t (take k (name_of t i))) ≡ e)
        × (past_of (beginnings t) (number_in (take k (name_of t i)) (beginnings t)) ≡ added.nodes_before t e)
    ends =
        let n = e - 1 in
        let full : suc n ≡ e = omega (arith, b.after) in
        let q : i + (n - i) ≡ n = omega (arith, b.after) in
        let s = rw q at (alike (n - i) (omega (arith, b.after))) in
        let stand : n < stands t = omega (arith, b.within, shared_length_lem t) in
        let next : suc n < stands t → shared_at t (suc n) < k = λ v. omega (arith, b.stops (omega (arith, shared_length_lem t)), shared_at_lem t e (omega arith), ap (shared_at t) full) in
        rw (← full, ← s.0) (past-stand t l.ordered n k stand s.1 next, past-node t l.ordered l.some n k stand s.1 next)

-- ---- one node: what is reckoned at stand i's first k bytes is what the definitions say of its text p

pub record Meant (t : Table) (i k : ℕ) (p : List ℕ) : Type 0 where
  pub size : k ≡ length p
  pub last : last_of t.text t.starts i k ≡ last_byte p
  pub first : i ≡ first_of (under t p)
  pub past : end_of (shared_of t) i k ≡ first_of (under t p) + length (under t p)
  pub end : past_number (lengths_of t) (shared_of t) i k (end_of (shared_of t) i k) (number_in p (beginnings t)) ≡ past_of (beginnings t) (number_in p (beginnings t))
  pub run : under t p ≡ span i (end_of (shared_of t) i k)
  pub after : i ≤ end_of (shared_of t) i k
  pub within : end_of (shared_of t) i k ≤ stands t

module _ (t : Table) (g : Grid) (l : LawfulTable t g) where
  pub meant-root : Meant t 0 0 []
  meant-root =
      let e : end_of (shared_of t) 0 0 ≡ stands t = end_all (shared_of t) ∙ shared_length_lem t in
      let z : stands t - 0 ≡ stands t = omega arith in
      let n : length (under t []) ≡ stands t = ap length (under_all t) ∙ length_from 0 (stands t) in
      let f : first_of (under t []) ≡ 0 = ap first_of (under_all t) ∙ first_up_to (stands t) in
      record {
        size = refl;
        last = refl;
        first = sym f;
        past = omega (arith, e, n, f);
        end =
            omega (
              arith,
              (columns_lawful t g l).grows.first,
              ap (grown_of (lengths_of t) (shared_of t) 0) e,
              nodes_same t g l (stands t) (omega arith),
              nodes_all t,
              past-root t,
              number_root t,
              ap (past_of (beginnings t)) (number_root t),
            );
        run = rw (under_all t, e, z);
        after = omega arith;
        within = omega (arith, e);
      }
    where
      first_up_to : (n : ℕ) → first_of (up_to n) ≡ 0
      first_up_to zero = refl
      first_up_to (suc n) = refl

  pub meant_new : (i k : ℕ) → i < stands t → shared_at t i < k → k ≤ length (name_of t i) → Meant t i k (take k (name_of t i))
  meant_new i zero h c u = absurd (omega arith)
  meant_new i (suc k) h c u =
      let p : List ℕ = take (suc k) (name_of t i) in
      let f : first_of (under t p) ≡ i = first_stand t l.ordered i (suc k) h c u in
      let e = ends t g l i (suc k) h u in
      let b = block (shared_of t) i (suc k) (omega (arith, shared_length_lem t)) in
      let n : length (under t p) ≡ end_of (shared_of t) i (suc k) - i = omega (arith, e.0, f) in
      let inside : end_of (shared_of t) i (suc k) ≤ stands t = omega (arith, b.within, shared_length_lem t) in
      let x : suc k - 1 ≡ k = omega arith in
      let some : eqb (suc k) 0 ≡ false = ne_eqb (suc k) 0 (λ r. omega arith) in
      record {
        size = sym (length-take-le (suc k) (name_of t i) u);
        last = rw (some, x) (sym (last_take (name_of t i) k u ∙ name_byte t g l i k h u));
        first = sym f;
        past = sym e.0;
        end =
            omega (
              arith,
              node_number t l.ordered i (suc k) h c u,
              shared_at_lem t i h,
              nodes_add t g l i (end_of (shared_of t) i (suc k)) (omega (arith, b.after)) inside,
              e.1,
            );
        run = under-run t l.ordered p ∙ rw (f, n);
        after = omega (arith, b.after);
        within = inside;
      }
