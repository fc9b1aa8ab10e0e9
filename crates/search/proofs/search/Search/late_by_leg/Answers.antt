-- `Search::late_by_leg` meets its contract: no leg is longer than its way. Assumes nothing.
use native.Mathlib.Omega.{arith}
use Rattle.search.proofs.Legs.{leg_keyable}
use Rattle.search.proofs.search.Search.late_by_leg.Goals as goal

pub key_at-requires : goal.key_at-requires
key_at-requires c = let k = leg_keyable _ _ _ _ _ c.requires in record { weighs = k.weighs; near = rw c.longer_leg.ensures k.near; below = omega (arith, k.below) }
