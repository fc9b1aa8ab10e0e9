-- Eight bits to a row: the columns' mask, times a bit for each row of the span, is the word of the touched regions.
-- Assumes nothing.
use Rattle.std.proofs.Common.{◌≡◌, ℕ, zero, suc, ◌+◌, ◌-◌, ◌*◌, ◌/◌, ◌%◌, ◌^◌, ◌<◌, ◌≤◌, false, ◌&&◌, leb, sym, ap, ◌∙◌, ⊎_elim, add-zero, add-suc, mul_assoc, add-mul, mul-zero, zero-add, mul-add, arith, pow_pos, pow-add, shl_exact, le-ltb, lt-ltb, le-leb}
use mathlib.Core.Bool.{and-true, and-false}
use native.Mathlib.Nat.{zero-sub, div-div-eq-div-mul, mul-div-mul_right}
use borrow.Table.Steps.{cases}
use borrow.Author.Tests.{lt-leb}
use Rattle.base.specs.Bits.{bit, word_of}
use Rattle.base.proofs.Tests.{le_or_lt}
use Rattle.base.proofs.Words.{word_same, word_none, word_split}
use Rattle.grid.specs.declared.cells.Span.{Span}
use Rattle.grid.specs.Cells.{in_span, touched, row_bits}

module _ (columns rows : Span) where
  -- region 8r + k is in column k of row r
  region_touched : (r k : ℕ) → k < 8 → touched columns rows (8 * r + k) ≡ (in_span columns k && in_span rows r)
  unfolding touched
  region_touched r k h =
      let column : (8 * r + k) % 8 ≡ k = omega arith in
      let row : (8 * r + k) / 8 ≡ r = omega arith in
      rw (column, row)

  -- a row of the span has the columns' mask, any other none
  row_word : (r : ℕ) → word_of (touched columns rows) (8 * r) 8 ≡ word_of (in_span columns) 0 8 * bit (in_span rows r)
  row_word r =
      let mask = word_of (in_span columns) 0 8 in
      let all : mask ≡ mask * 1 = omega arith in
      cases (in_span rows r)
      (λ e. rw (e, ← all) (word_same _ _ (8 * r) 0 8 (λ k h. region_touched r k h ∙ rw (e, zero-add k) (and-true (in_span columns k)))))
      (λ e. rw (e, mul-zero mask) (word_same _ (λ k. false) (8 * r) 0 8 (λ k h. region_touched r k h ∙ rw e (and-false (in_span columns k))) ∙ word_none 0 8))

  -- n rows are 8n regions
  pub mask_touched : (n : ℕ) → word_of (in_span columns) 0 8 * row_bits rows n ≡ word_of (touched columns rows) 0 (8 * n)
  unfolding row_bits word_of
  mask_touched zero = omega arith
  mask_touched (suc n) =
      let mask = word_of (in_span columns) 0 8 in
      let more : 8 * suc n ≡ 8 * n + 8 = omega arith in
      rw (more, word_split (touched columns rows) 0 (8 * n) 8, zero-add (8 * n), row_word n, ← mask_touched n, mul_assoc mask (bit (in_span rows n)) (2 ^ (8 * n)))
      (mul-add mask (row_bits rows n) (bit (in_span rows n) * 2 ^ (8 * n)))

-- the bits of all rows below n: eight ones a row, 2 ^ 8n - 1, are 255 times as much
abbrev below : ℕ → ℕ
below n = 2 ^ (8 * n) / 255

one_more : (n : ℕ) → below n + 2 ^ (8 * n) ≡ below (suc n)
one_more n =
    let more : 8 * suc n ≡ 8 + 8 * n = omega arith in
    rw (more, pow-add 2 8 (8 * n)) (omega arith)

-- shifted down by m rows, the bits of m + n rows are those of n
below_shifted : (m n : ℕ) → below (n + m) / 2 ^ (8 * m) ≡ below n
below_shifted m n =
    let more : 8 * (n + m) ≡ 8 * n + 8 * m = omega arith in
    rw (more, pow-add 2 (8 * n) (8 * m), div-div-eq-div-mul (2 ^ (8 * n) * 2 ^ (8 * m)) 255 (2 ^ (8 * m))) (mul-div-mul_right (2 ^ (8 * n)) 255 (pow_pos (8 * m)))

module _ (rows : Span) where
  -- the span's rows below n, as many from row 0 on, shifted up to its first
  rows_inside : (n : ℕ) → n ≤ rows.past → row_bits rows n ≡ below (n - rows.first) * 2 ^ (8 * rows.first)
  unfolding row_bits in_span
  rows_inside zero h = rw (zero-sub rows.first) (omega arith)
  rows_inside (suc n) h =
      let before = rows_inside n (omega arith) in
      ⊎_elim
      (λ (k : rows.first ≤ n).
      let many = n - rows.first in
      let more : suc n - rows.first ≡ suc many = omega arith in
      let back : 8 * many + 8 * rows.first ≡ 8 * n = omega arith in
      rw (le-leb rows.first n k, lt-ltb n rows.past h, before, more, ← one_more many, add-mul (below many) (2 ^ (8 * many)) (2 ^ (8 * rows.first)), ← pow-add 2 (8 * many) (8 * rows.first), back) (omega arith))
      (λ (k : n < rows.first).
      let more : suc n - rows.first ≡ n - rows.first = omega arith in
      rw (lt-leb rows.first n k, before, more) (omega arith))
      (le_or_lt rows.first n)

  -- no row past the span adds any
  rows_past : (n : ℕ) → row_bits rows (rows.past + n) ≡ row_bits rows rows.past
  unfolding row_bits in_span
  rows_past zero = rw (add-zero rows.past)
  rows_past (suc n) = rw (add-suc rows.past n, rows_past n, le-ltb (rows.past + n) rows.past (omega arith), and-false (leb rows.first (rows.past + n))) (omega arith)

  module _ (most : rows.past ≤ 8) where
    -- of all rows of the grid
    bits_between : row_bits rows 8 ≡ below (rows.past - rows.first) * 2 ^ (8 * rows.first)
    bits_between =
        let all : 8 ≡ rows.past + (8 - rows.past) = omega arith in
        ap (row_bits rows) all ∙ rows_past (8 - rows.past) ∙ rows_inside rows.past (omega arith)

    -- an empty span
    pub no_row : rows.past ≤ rows.first → 0 ≡ row_bits rows 8
    no_row h =
        let none : rows.past - rows.first ≡ 0 = omega arith in
        sym (bits_between ∙ rw none (omega arith))

    -- the bits of the grid's rows, shifted down until as many are left as the span has, and up to its first
    pub rows_shifted : rows.first < rows.past → below 8 / 2 ^ (8 * (8 - (rows.past - rows.first))) * 2 ^ (8 * rows.first) % 2 ^ 64 ≡ row_bits rows 8
    rows_shifted h =
        let many = rows.past - rows.first in
        let all : 8 ≡ many + (8 - many) = omega arith in
        let left : below 8 / 2 ^ (8 * (8 - many)) ≡ below many = ap (λ (n : ℕ). below n / 2 ^ (8 * (8 - many))) all ∙ below_shifted (8 - many) many in
        rw (left, bits_between) (shl_exact (8 * many) (8 * rows.first) 64 (omega (arith, pow_pos (8 * many))) (omega arith))
