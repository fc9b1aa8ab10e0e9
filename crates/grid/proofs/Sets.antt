-- Sets of regions as two words of a test's bits: each call on them is what it says on the tests.
-- Assumes nothing.
use Rattle.std.proofs.Common.{◌≡◌, ℕ, ◌+◌, ◌-◌, ◌/◌, ◌%◌, ◌<◌, ◌≤◌, Bool, ◌&&◌, ap, ◌∙◌, ⊎_elim, zero-add, arith, le-ltb, lt-ltb}
use Rattle.base.proofs.Tests.{le_or_lt}
use Rattle.base.specs.Bits.{word_of}
use Rattle.base.proofs.Words.{bit-asks, words_and, word_split, word_less}
use Rattle.grid.specs.Cells.{cells_by, has_cell, both_cells}

-- `has` asks the test
pub has_by : (test : ℕ → Bool) (r : ℕ) → r < 64 → has_cell (cells_by test) r ≡ test r
unfolding has_cell cells_by
has_by test r h =
    ⊎_elim
    (λ (k : 32 ≤ r). let e : 32 + (r - 32) ≡ r = omega arith in rw (le-ltb r 32 k) (bit-asks test 32 32 (r - 32) (omega arith) ∙ ap test e))
    (λ (k : r < 32). rw (lt-ltb r 32 k) (bit-asks test 0 32 r k ∙ ap test (zero-add r)))
    (le_or_lt 32 r)

-- `both` joins two tests
pub both_by : (f g : ℕ → Bool) → both_cells (cells_by f) (cells_by g) ≡ cells_by (λ k. f k && g k)
unfolding both_cells cells_by
both_by f g = rw (words_and f g 0 32, words_and f g 32 32)

-- low and high are the halves of the word of all 64 bits
pub by_halves : (test : ℕ → Bool) → record { low = word_of test 0 64 % 4294967296; high = word_of test 0 64 / 4294967296 } ≡ cells_by test
unfolding cells_by
by_halves test =
    let parts = word_split test 0 32 32 in
    let less = word_less test 0 32 in
    let low : word_of test 0 64 % 4294967296 ≡ word_of test 0 32 = omega arith in
    let high : word_of test 0 64 / 4294967296 ≡ word_of test 32 32 = omega arith in
    rw (low, high)
