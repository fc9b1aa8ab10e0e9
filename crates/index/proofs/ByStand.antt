-- A table's columns by place, and that a lawful table's columns are what the code of `words` asks for.
-- Assumes nothing.
use mathlib.Core.Path.{◌≡◌, refl, sym, ◌∙◌}
use mathlib.Core.List.{List}
use mathlib.Core.Logic.{⊎_elim}
use Prim.Native.Nat.{ℕ, zero, suc, ◌+◌, ◌-◌, ◌≤◌, ◌<◌}
use native.Mathlib.Omega.{arith}
use native.Mathlib.Nat.{zero-add}
use lib.ListN.{length, take, drop, get_or, get_or-eq_default}
use lib.Seq.{length-take-le, get_or-take, get_or-drop}
use Rattle.base.specs.Lists.{up_to, each, shared_length}
use Rattle.base.proofs.Tests.{le_or_lt}
use Rattle.base.proofs.Members.{length-each}
use Rattle.base.proofs.Runs.{length_from, get_or-each_from}
use Rattle.base.proofs.Begins.{shared_le, shared_le_other}
use Rattle.rules.specs.declared.Grid.{Grid}
use Rattle.rules.specs.Names.{name}
use Rattle.rules.specs.Tables.{Table, stands, start_of, name_of, place_of, LawfulTable}
use Rattle.rules.specs.Questions.{region_of_stand}
use Rattle.rules.proofs.Lawful.{start_inside, name-part}
use Rattle.rules.proofs.Places.{region_less}
use Rattle.meaning.specs.Adding.{name_before, shared_at}
use Rattle.meaning.proofs.Sizes.{name-length}
use Rattle.node.specs.Columns.{index_columns, at, Grows, Placed, LawfulColumns}
use Rattle.index.specs.Columns.{length_in, shared_in, region_in, lengths_in, shares_in, regions_over, lengths_of, shared_of, regions_of, table_columns, Spelled, Located}

-- ---- what two names share

module _ (text starts : List ℕ) where
  pub shared_later : (i : ℕ) → (i ≡ 0 → ⊥) → shared_length (name text starts (i - 1)) (name text starts i) ≡ shared_in text starts i
  shared_later zero h = absurd (h refl)
  shared_later (suc i) h = let e : suc i - 1 ≡ i = omega arith in rw e

  pub shared_short : (n i : ℕ) → Spelled text starts n → i < n → shared_in text starts i ≤ 24
  shared_short n zero s h = omega arith
  shared_short n (suc i) s h = omega (arith, shared_le_other (name text starts i) (name text starts (suc i)), s.short (suc i) h)

-- ---- the columns by place

-- a column has a row for each stand
column_length : (f : ℕ → ℕ) (n : ℕ) → length (each f (up_to n)) ≡ n
column_length f n = length-each f (up_to n) ∙ length_from 0 n

column_at : (f : ℕ → ℕ) (n i : ℕ) → i < n → at (each f (up_to n)) i ≡ f i
column_at f n i h = rw (get_or-each_from f 0 n i 0 h, zero-add i)

module _ (t : Table) where
  pub lengths_length : length (lengths_of t) ≡ stands t
  unfolding lengths_of
  lengths_length = column_length (length_in t.text t.starts) (stands t)

  pub shared_length_lem : length (shared_of t) ≡ stands t
  unfolding shared_of
  shared_length_lem = column_length (shared_in t.text t.starts) (stands t)

  pub lengths_at : (i : ℕ) → i < stands t → at (lengths_of t) i ≡ length (name_of t i)
  unfolding lengths_of
  lengths_at = column_at (length_in t.text t.starts) (stands t)

  pub shared_at_lem : (i : ℕ) → i < stands t → at (shared_of t) i ≡ shared_at t i
  unfolding shared_of
  shared_at_lem zero = column_at (shared_in t.text t.starts) (stands t) zero
  shared_at_lem (suc i) = column_at (shared_in t.text t.starts) (stands t) (suc i)

module _ (g : Grid) (t : Table) where
  pub regions-length : length (regions_of g t) ≡ stands t
  unfolding regions_of
  regions-length = column_length (region_in t.east t.north g) (stands t)

  pub regions-at : (i : ℕ) → i < stands t → at (regions_of g t) i ≡ region_of_stand g t i
  unfolding regions_of region_of_stand
  regions-at = column_at (region_in t.east t.north g) (stands t)

module _ (t : Table) (g : Grid) (l : LawfulTable t g) where
  -- where a name lies in the text
  pub name_byte : (i k : ℕ) → i < stands t → k < length (name_of t i) → get_or (name_of t i) k 0 ≡ at t.text (start_of t i + k)
  name_byte i k h u =
      rw (name-part t g l i h, get_or-take (start_of t (i + 1) - start_of t i) (drop (start_of t i) t.text) k 0 (omega (arith, name-length t g l i h)), get_or-drop)

  -- ---- what the code asks

  pub located : Located t.east t.north g
  located =
      let e = l.shaped.easts in
      record { few = omega (arith, l.shaped.few); same = l.shaped.norths ∙ sym e; lawful = l.gridded; inside = λ i h. l.placed i (omega arith) }

  -- a column in the front of a longer array
  pub front_size : (array : List ℕ) → length array ≡ 1024 → stands t ≡ length (take (stands t) array)
  front_size array size = sym (length-take-le (stands t) array (omega (arith, l.shaped.few)))

  pub columns_are : {long alike : List ℕ} (region : List ℕ) → long ≡ lengths_in t.text t.starts (stands t) → alike ≡ shares_in t.text t.starts (stands t)
      → take (length t.east) region ≡ regions_over t.east t.north g → index_columns t.text t.starts long alike (take (stands t) region) t.score ≡ table_columns t g
  unfolding lengths_of shared_of regions_of
  columns_are region a b c = rw (a, b, rw l.shaped.easts at c)

  grows : Grows (lengths_of t) (shared_of t)
  grows =
      let n : length (lengths_of t) ≡ stands t = lengths_length t in
      record {
        few = omega (arith, n, l.shaped.few);
        same = shared_length_lem t ∙ sym n;
        part = λ k h. let i : k < stands t = omega arith in omega (arith, lengths_at t k i, shared_at_lem t k i, shared_le_other (name_before t k) (name_of t k));
        short = λ k h. let i : k < stands t = omega arith in omega (arith, lengths_at t k i, l.short k i);
        before = λ k h. omega (arith, lengths_at t k (omega arith), shared_at_lem t (suc k) (omega arith), shared_le (name_of t k) (name_of t (suc k)));
        first = ⊎_elim (λ (h : stands t ≤ 0). get_or-eq_default (shared_of t) 0 (omega (arith, shared_length_lem t))) (shared_at_lem t 0) (le_or_lt (stands t) 0);
      }

  placed : Placed (regions_of g t)
  unfolding region_of_stand
  placed =
      record {
        few = omega (arith, regions-length g t, l.shaped.few);
        inside = λ k h.
            let i : k < stands t = omega (arith, regions-length g t) in
            omega (arith, regions-at g t k i, region_less g (place_of t k) l.gridded (l.placed k i));
      }

  pub columns_lawful : LawfulColumns (table_columns t g)
  columns_lawful =
      record {
        grows = grows;
        placed = placed;
        same = regions-length g t ∙ sym (lengths_length t);
        scored = sym (lengths_length t);
        spelt = record {
          begun = omega (arith, lengths_length t, l.shaped.bounds);
          inside = λ k h.
              let i : k < stands t = omega (arith, lengths_length t) in
              omega (arith, lengths_at t k i, name-length t g l k i, l.shaped.forward k i, start_inside t g l (k + 1) (omega arith));
        };
      }
