-- `grown_by` takes digit after digit: the invariant is Growing.
-- Assumes nothing.
use mathlib.Core.Path.{◌≡◌, sym, ◌∙◌}
use mathlib.Core.Logic.{⊎_elim}
use native.Mathlib.Omega.{arith}
use lib.ListN.{get_or}
use Rattle.lines.specs.Reads.{grown}
use Rattle.lines.proofs.Turns.{broken, grown_one, grown_all}
use Rattle.lines.proofs.reading.grown_by.Goals as goal

pub returns-then-not-is_ascii_digit : goal.returns-then-not-is_ascii_digit
returns-then-not-is_ascii_digit c =
    sym (broken _ _ _ _ c.loop-b-test.true (λ f. ⊎_elim (λ w. omega arith) (λ w. omega arith) c.if-not-is_ascii_digit.ensures.cases) c.loop-b.invariant)

pub returns-in_err-checked_mul : goal.returns-in_err-checked_mul
returns-in_err-checked_mul c =
    c.from_residual.ensures ∙ sym (broken _ _ _ _ c.loop-b-test.true (λ f. omega (arith, c.in_err-checked_mul.ensures)) c.loop-b.invariant)

pub returns-in_err-value : goal.returns-in_err-value
returns-in_err-value c =
    c.from_residual-in_err-value.ensures ∙ sym (broken _ _ _ _ c.loop-b-test.true (λ f. omega (arith, c.in_err-value.ensures)) c.loop-b.invariant)

pub returns-then-most-value : goal.returns-then-most-value
returns-then-most-value c = sym (broken _ _ _ _ c.loop-b-test.true (λ f. omega (arith, c.in_ok-value.ensures)) c.loop-b.invariant)

pub loop-b-preserved : goal.loop-b-preserved
loop-b-preserved c =
    let e : grown c.loop-b.value (get_or c.args.digits.now c.loop-b.b-index 0) ≡ c.in_ok-value.value = omega (arith, c.in_ok-value.ensures, c.in_ok-checked_mul.ensures) in
    let d = c.if-not-is_ascii_digit.ensures.cases in
    rw e at (grown_one _ _ _ _ c.loop-b-test.true (record { low = d.0; high = d.1; few = rw e c.if-most-value.false }) c.loop-b.invariant)

pub returns : goal.returns
returns c = sym (grown_all _ _ _ _ c.loop-b-test.false c.loop-b.invariant)
