-- Where the block of a node's stands ends, by the column of what names share: all in it share enough, the one behind it less.
-- Assumes nothing.
use mathlib.Core.Path.{◌≡◌, refl, ap, ◌∙◌}
use mathlib.Core.Logic.{◌⊎◌, inl, inr}
use mathlib.Core.Bool.{true, false}
use mathlib.Core.List.{List, [], ◌∷◌}
use Prim.Native.Nat.{ℕ, zero, suc, ◌+◌, ◌-◌, ◌≤◌, ◌<◌}
use native.Mathlib.Omega.{arith}
use lib.Dec.{ltb}
use lib.ListN.{length, drop, length-drop}
use lib.Seq.{drop-cons, get_or-drop}
use borrow.Author.Tests.{ltb-true, ltb-false, le-ltb}
use Rattle.base.proofs.Tests.{which}
use Rattle.node.specs.Columns.{at, front_run, block_of, end_of}

-- the run at the front of a column that is l or more
pub record Run (l : ℕ) (column : List ℕ) (n : ℕ) : Type 0 where
  pub within : n ≤ length column
  pub inside : (k : ℕ) → k < n → l ≤ at column k
  pub stops : n < length column → at column n < l

run : (l : ℕ) (column : List ℕ) → Run l column (front_run l column)
run l [] = record { within = omega arith; inside = λ k h. absurd (omega arith); stops = λ h. absurd (omega arith) }
run l (c ∷ cs) = step (which (ltb c l)) (run l cs)
  where
    more : ltb c l ≡ false → (k : ℕ) → Run l cs (front_run l cs) → k < suc (front_run l cs) → l ≤ at (c ∷ cs) k
    more q zero r h = ltb-false c l q
    more q (suc k) r h = r.inside k (omega arith)

    step : (ltb c l ≡ true) ⊎ (ltb c l ≡ false) → Run l cs (front_run l cs) → Run l (c ∷ cs) (front_run l (c ∷ cs))
    step (inl q) r = rw q (record { within = omega arith; inside = λ k h. absurd (omega arith); stops = λ h. ltb-true c l q })
    step (inr q) r = rw q (record { within = omega (arith, r.within); inside = λ k h. more q k r h; stops = λ h. r.stops (omega arith) })

-- the stands i to e - 1 are those that share their first l bytes with stand i
pub record Block (shared : List ℕ) (i l e : ℕ) : Type 0 where
  pub after : i < e
  pub within : e ≤ length shared
  pub inside : (k : ℕ) → i < k → k < e → l ≤ at shared k
  pub stops : e < length shared → at shared e < l

pub block : (shared : List ℕ) (i l : ℕ) → i < length shared → Block shared i l (end_of shared i l)
unfolding end_of
block shared i l h =
    let rest : List ℕ = drop (suc i) shared in
    let size : length rest ≡ length shared - suc i = length-drop (suc i) shared in
    let e : i + block_of l (drop i shared) ≡ suc i + front_run l rest = rw (drop-cons shared i 0 h) (omega arith) in
    let r = run l rest in
    rw e record {
      after = omega arith;
      within = omega (arith, r.within);
      inside = λ k u v.
          let q : suc i + (k - suc i) ≡ k = omega arith in
          omega (arith, r.inside (k - suc i) (omega arith), get_or-drop (suc i) shared (k - suc i) 0 ∙ ap (at shared) q);
      stops = λ u. omega (arith, r.stops (omega arith), get_or-drop (suc i) shared (front_run l rest) 0);
    }

-- with nothing to fall short of, the block is all the rest
front_all : (column : List ℕ) → front_run 0 column ≡ length column
front_all [] = refl
front_all (c ∷ cs) = rw (le-ltb c 0 (omega arith), front_all cs)

pub end_all : (shared : List ℕ) → end_of shared 0 0 ≡ length shared
unfolding end_of
end_all [] = refl
end_all (c ∷ cs) = omega (arith, front_all cs)
