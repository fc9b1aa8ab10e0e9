-- Floored edges, clipped to the grid: the span has a column of the grid exactly if it lies between the two.
-- Assumes nothing.
use Rattle.std.proofs.Common.{◌≡◌, ℕ, ◌+◌, ◌<◌, ◌≤◌, Bool, ◌&&◌, ltb, leb, ℤ, pos, negsuc, sym, ap, add-one, arith, ltb-false, ltb-true, le-ltb, lt-ltb, le-leb}
use mathlib.Core.Bool.{and-false}
use lib.Signed.{le_z, lt_z}
use lib.Dec.{leb-zero, leb-suc-suc}
use borrow.Table.Steps.{cases}
use borrow.Author.Tests.{lt-leb}
use Rattle.grid.specs.Cells.{clip, span_of, in_span}

pub clip_less : (z : ℤ) → clip z ≤ 7
clip_less (negsuc n) = omega arith
clip_less (pos n) = cases (ltb 7 n) (λ e. rw e (omega arith)) (λ e. rw e (ltb-false 7 n e))

-- no span goes past the grid's columns
pub past_most : (a b : ℤ) → (span_of a b).past ≤ 8
unfolding span_of
past_most a b =
    cases (lt_z b (pos 0))
    (λ e. rw e (omega arith))
    (λ e. rw e (cases (lt_z (pos 7) a) (λ f. rw f (omega arith)) (λ f. rw f (omega (arith, clip_less b)))))

-- what is past the clipped end
past-clip : (k m : ℕ) → k < 8 → ltb k (clip (pos m) + 1) ≡ leb k m
past-clip k m h =
    cases (ltb 7 m)
    (λ e. let g = ltb-true 7 m e in rw (e, lt-ltb k 8 h, le-leb k m (omega arith)))
    (λ e. rw (e, add-one m) (leb-suc-suc k m))

-- clipping loses nothing: a column of the grid is in the span exactly if it lies between the floored edges
pub span_exact : (a b : ℤ) (k : ℕ) → k < 8 → in_span (span_of a b) k ≡ (le_z a (pos k) && le_z (pos k) b)
unfolding span_of in_span
span_exact a (negsuc m) k h = rw (leb-zero k, le-ltb k 0 (omega arith)) (sym (and-false (le_z a (pos k))))
span_exact (negsuc n) (pos m) k h = rw (le-ltb m 0 (omega arith), leb-zero k) (past-clip k m h)
span_exact (pos n) (pos m) k h =
    cases (ltb 7 n)
    (λ e. let g = ltb-true 7 n e in rw (le-ltb m 0 (omega arith), e, leb-zero k, le-ltb k 0 (omega arith), lt-leb n k (omega arith)))
    (λ e. rw (le-ltb m 0 (omega arith), e) (ap (λ (b : Bool). leb n k && b) (past-clip k m h)))
