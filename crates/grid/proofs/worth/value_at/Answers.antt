-- `grid::worth::value_at` meets its contract. Each of the two sums is at most 16 × 1,000 × 92,681.
-- Assumes nothing.
use Rattle.std.proofs.Common.{arith, rules}
use Rattle.rules.specs.Worth.{value_at}
use Rattle.grid.proofs.Values.{weighted_most, by_score_most, by_place_most}
use Rattle.grid.proofs.worth.value_at.Goals as goal

pub overflow_mul-by_score : goal.overflow_mul-by_score
overflow_mul-by_score c = omega (arith, weighted_most _ _ _ c.requires.0)

pub overflow_mul-by_score-2 : goal.overflow_mul-by_score-2
overflow_mul-by_score-2 c = omega (arith, by_score_most _ _ _ c.requires.0)

pub overflow_mul-by_place : goal.overflow_mul-by_place
overflow_mul-by_place c = omega (arith, by_place_most _ _ _ c.requires.0 c.args.distance)

pub overflow_mul-by_place-2 : goal.overflow_mul-by_place-2
overflow_mul-by_place-2 c = omega (arith, by_place_most _ _ _ c.requires.0 c.args.distance)

pub overflow_add-result : goal.overflow_add-result
overflow_add-result c = omega (arith, by_score_most _ _ _ c.requires.0, by_place_most _ _ _ c.requires.0 c.args.distance)

pub returns : goal.returns
unfolding value_at
returns c = search rules
