-- What building promises, of its answer and of the four buffers, on every input. What checking promises is one equation of the rules:
-- `checked_numbers r ≡ check_told t g x`.
use Rattle.std.specs.Prelude.{◌≡◌, Result, List, ℕ}
use Rattle.base.specs.Lent.{LentMut, given_mut, after}
use Rattle.rules.specs.declared.Grid.{Grid}
use Rattle.rules.specs.declared.Refusal.{Refusal}
use Rattle.rules.specs.declared.Sizes.{Sizes}
use Rattle.rules.specs.Numbers.{built_numbers}
use Rattle.rules.specs.Tables.{Table}
use Rattle.rules.specs.Indexes.{Index, index_of, build_told, index_after}

-- the buffers that a call is lent to write, and those that it leaves
abbrev pub index_given : LentMut (List ℕ) → LentMut (List ℕ) → LentMut (List ℕ) → LentMut (List ℕ) → Index
index_given order nodes entries bits = index_of (given_mut order) (given_mut nodes) (given_mut entries) (given_mut bits)

abbrev pub index_left : LentMut (List ℕ) → LentMut (List ℕ) → LentMut (List ℕ) → LentMut (List ℕ) → Index
index_left order nodes entries bits = index_of (after order) (after nodes) (after entries) (after bits)

-- given the table t, the grid g and the buffers x, it answers r and leaves the buffers y
pub record BuildPromise (t : Table) (g : Grid) (x : Index) (r : Result Sizes Refusal) (y : Index) : Type 0 where
  pub told : built_numbers r ≡ build_told t g x
  pub buffers : y ≡ index_after t g x
