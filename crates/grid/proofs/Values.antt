-- A value fits 32 bits; it rises with the score and falls with the distance, so that a region's bound holds for its stands.
-- Assumes nothing.
use Rattle.std.proofs.Common.{◌≡◌, ℕ, ◌+◌, ◌-◌, ◌*◌, ◌≤◌, true, mul-le-mul_right, add-mul, mul-le-mul, mul-le-mul_left, mul_right_comm, arith}
use Rattle.rules.specs.declared.Grid.{Grid}
use Rattle.rules.specs.declared.Place.{Place}
use Rattle.rules.specs.Places.{grid_lawful, in_grid, region_of}
use Rattle.rules.specs.Worth.{diagonal, value_at, value_of, bound_of}
use Rattle.rules.proofs.Places.{cell_some}
use Rattle.grid.specs.Ways.{Weighable}
use Rattle.grid.proofs.Distances.{cell_least}

-- the two sums of a value
module _ (D a s : ℕ) (can : Weighable D a s) where
  pub weighted_most : a * s ≤ 16000
  weighted_most = mul-le-mul can.weight can.score

  pub by_score_most : a * s * D ≤ 1482896000
  by_score_most = mul-le-mul weighted_most can.whole

  pub by_place_most : (d : ℕ) → (16 - a) * (D - d) ≤ 1482896
  by_place_most d = mul-le-mul {n₂ = 16} {m₂ = 92681} (omega arith) (omega (arith, can.whole))

  -- for the reader: no value is more than 16,000 × D
  pub value_most : (d : ℕ) → value_at D a s d ≤ 1482896000
  unfolding value_at
  value_most d =
      let by-score : a * s * D ≤ a * D * 1000 = rw (mul_right_comm a D 1000) (mul-le-mul_right D (mul-le-mul_left a can.score)) in
      let by_place : (16 - a) * (D - d) ≤ (16 - a) * D = mul-le-mul_left (16 - a) (omega arith) in
      let weights : a + (16 - a) ≡ 16 = omega (arith, can.weight) in
      let both : 16 * D ≡ a * D + (16 - a) * D = rw weights at (add-mul a (16 - a) D) in
      omega (arith, can.whole)

-- more score and less distance are worth no less
pub value_order : (D a s s' d d' : ℕ) → s ≤ s' → d' ≤ d → value_at D a s d ≤ value_at D a s' d'
unfolding value_at
value_order D a s s' d d' hs hd =
    let by-score = mul-le-mul_right D (mul-le-mul_left a hs) in
    let nearer : D - d ≤ D - d' = omega arith in
    let by_place = mul-le-mul_right 1000 (mul-le-mul_left (16 - a) nearer) in
    omega arith

-- for the reader: a stand of a region, with a score up to s, is worth no more at any place than the region's bound there
pub value_within_bound : (g : Grid) (a score s : ℕ) (stand place : Place) → grid_lawful g ≡ true → in_grid g stand ≡ true → score ≤ s → value_of g a score stand place ≤ bound_of g a s (region_of g stand) place
unfolding value_of bound_of
value_within_bound g a score s stand place lawful inside h =
    value_order (diagonal g) a score s _ _ h (cell_least g stand place (cell_some g lawful) inside)
