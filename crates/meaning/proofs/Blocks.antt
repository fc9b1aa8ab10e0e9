-- Of names in order, the numbers of those that begin with a text are a run; of names strictly in order, the run of
-- the j-th name's own text starts at j. Assumes nothing.
use mathlib.Core.Path.{◌≡◌}
use mathlib.Core.Logic.{⊎_elim}
use mathlib.Core.Bool.{true}
use mathlib.Core.List.{List}
use Prim.Native.Nat.{ℕ, ◌+◌, ◌-◌, ◌≤◌, ◌<◌}
use native.Mathlib.Omega.{arith}
use native.Mathlib.Nat.{eq-or-lt_of_le}
use lib.ListN.{length}
use Rattle.base.specs.Lists.{up_to, keep, first_of, begins}
use Rattle.base.proofs.Tests.{never}
use Rattle.base.proofs.Members.{in-keep, keep-in}
use Rattle.base.proofs.Runs.{in_from, from_in, Run, keep_run}
use Rattle.base.proofs.Begins.{begins-refl}
use Rattle.rules.proofs.Orders.{begins_order, begins_interval, Rising, StrictlyRising, strict_rising}

-- of the names g 0 .. g (n - 1), the numbers of those that begin with p
abbrev pub block_of : (ℕ → List ℕ) → ℕ → List ℕ → List ℕ
block_of g n p = keep (λ i. begins p (g i)) (up_to n)

module _ (g : ℕ → List ℕ) (n : ℕ) (up : Rising g n) (p : List ℕ) where
  pub block_run : Run (block_of g n p)
  block_run = keep_run (λ i. begins p (g i)) n 0 n (omega arith) (λ i j k u v w a b. begins_interval p (g i) (g j) (g k) a (up i j u (omega arith)) (up j k v w) b)

  pub block_in : (i : ℕ) → i < n → begins p (g i) ≡ true → (first_of (block_of g n p) ≤ i) × (i < first_of (block_of g n p) + length (block_of g n p))
  block_in i h b = in_from _ _ i (rw block_run at (in-keep (λ i. begins p (g i)) (up_to n) i (from_in 0 n i (omega arith) (omega arith)) b))

  pub block_out : (i : ℕ) → first_of (block_of g n p) ≤ i → i < first_of (block_of g n p) + length (block_of g n p) → (i < n) × (begins p (g i) ≡ true)
  block_out i u v =
      let t = keep-in (λ i. begins p (g i)) (up_to n) i (rw (← block_run) at (from_in (first_of (block_of g n p)) (length (block_of g n p)) i u v)) in
      let w = in_from 0 n i t.0 in
      (omega arith, t.1)

-- the block of the j-th name of names that rise strictly
module _ (g : ℕ → List ℕ) (n : ℕ) (up : StrictlyRising g n) (j : ℕ) (lt : j < n) where
  block_first : first_of (block_of g n (g j)) ≡ j
  block_first =
      let first = first_of (block_of g n (g j)) in
      let here = block_in g n (strict_rising g n up) (g j) j lt (begins-refl (g j)) in
      -- a smaller one would begin with g j and still come strictly before it
      ⊎_elim
      (λ e. e)
      (λ h. never _ (begins_order (g j) (g first) (block_out g n (strict_rising g n up) (g j) first (omega arith) (omega arith)).1) (up first j h lt))
      (eq-or-lt_of_le here.0)

  pub block_from : (i : ℕ) → i < n → begins (g j) (g i) ≡ true → (j ≤ i) × (i < j + length (block_of g n (g j)))
  block_from i h b = let t = block_in g n (strict_rising g n up) (g j) i h b in (omega (arith, block_first), omega (arith, block_first))

  pub block_begins : (i : ℕ) → j ≤ i → i < j + length (block_of g n (g j)) → (i < n) × (begins (g j) (g i) ≡ true)
  block_begins i u v = block_out g n (strict_rising g n up) (g j) i (omega (arith, block_first)) (omega (arith, block_first))

  pub block_past : (j < j + length (block_of g n (g j))) × (j + length (block_of g n (g j)) ≤ n)
  block_past =
      let u = block_from j lt (begins-refl (g j)) in
      let v = block_begins (j + length (block_of g n (g j)) - 1) (omega arith) (omega arith) in
      (omega arith, omega arith)
