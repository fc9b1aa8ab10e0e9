-- `grid::within` meets its contract: of a coordinate before the edge the wrapped difference is near 2 ^ 64.
-- Assumes nothing.
use Rattle.std.proofs.Common.{◌≡◌, ℕ, suc, ◌+◌, ◌*◌, ◌%◌, ◌^◌, ◌<◌, ◌≤◌, ◌&&◌, ltb, leb, ◌∙◌, ⊎_elim, arith, le-ltb, le-leb}
use borrow.Author.Tests.{lt-leb}
use Rattle.base.proofs.Machine.{arrives}
use Rattle.base.proofs.Tests.{le_or_lt}
use Rattle.rules.specs.Places.{within, lifted}
use Rattle.grid.proofs.Signed.{lifted_less}
use Rattle.grid.proofs.Floors.{same_test}
use Rattle.grid.proofs.within.Goals as goal

-- one test of a wrapped difference for both ends
module _ (edge x into width : ℕ) (edge-small : edge < 4294967296) (x-small : x < 4294967296) (into-small : into < 18446744073709551616) (width_small : width ≤ 34359738368) (wraps : (into + edge) % 2 ^ 64 ≡ x) where
  one-test : ltb into width ≡ (leb edge x && ltb x (edge + width))
  one-test =
      ⊎_elim
      (λ (h : edge ≤ x).
      let x_is : x ≡ edge + into = omega (arith, wraps) in
      rw (le-leb edge x h, x_is) (same_test (suc into) width (suc (edge + into)) (edge + width) (λ h. omega arith) (λ h. omega arith)))
      (λ (h : x < edge). rw (lt-leb edge x h) (le-ltb into width (omega (arith, wraps))))
      (le_or_lt edge x)

pub returns : goal.returns
unfolding within
returns c =
    let s = c.before.before.before in
    let x_is : c.lift.result ≡ lifted c.args.x = c.lift.ensures ∙ arrives lifted c.args.x c.ranges.x in
    let edge_is : c.lift-2.result ≡ lifted c.args.edge = c.lift-2.ensures ∙ arrives lifted c.args.edge c.ranges.edge in
    let wraps = rw (x_is, edge_is) at c.wrapping_sub_u64-into.ensures.value in
    one-test _ _ _ (8 * s.args.cell) (lifted_less _ s.ranges.edge) (lifted_less _ s.ranges.x) c.wrapping_sub_u64-into.type_inv (omega (arith, s.ranges.cell.fits)) wraps
