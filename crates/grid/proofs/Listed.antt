-- The regions of a set as a rising list: the set bits of its low word, then those of its high one.
-- The calls that take the smallest region away, until none is left, go by this list. Assumes nothing.
use Rattle.std.proofs.Common.{◌≡◌, ℕ, ◌+◌, ◌-◌, ◌<◌, ◌≤◌, Bool, false, ◌&&◌, eqb, List, [], ◌∷◌, ◌++◌, length, sym, refl, ap, ◌∙◌, ap₂, arith, length-append, le-ltb, lt-ltb, eqb-true}
use lib.Bits.{bit_and}
use lib.Count.{ones, count_trailing_zeros}
use borrow.Table.Steps.{cases}
use borrow.Author.Tests.{eqb-false}
use Rattle.base.specs.Lists.{up_to, keep, each, is_empty, In}
use Rattle.base.specs.Bits.{bit_at}
use Rattle.base.proofs.Members.{keep-in, keep_same, length-keep, keep_both, length-each}
use Rattle.base.proofs.Runs.{length_from, in_from, keep-halves}
use Rattle.base.proofs.Lowest.{set_bits, bits_none, bits_lowest, bits_count}
use Rattle.rules.specs.Places.{regions}
use Rattle.grid.specs.declared.cells.Cells.{Cells}
use Rattle.grid.specs.Cells.{cells_by, has_cell, both_cells, regions_in}
use Rattle.grid.proofs.Sets.{has_by, both_by}

-- the bits of a word; shut, so that a run of them stays a call
half : ℕ
half = 32

half_is : half ≡ 32
unfolding half
half_is = refl

regions_is : half + half ≡ regions
unfolding half regions
regions_is = refl

-- the regions of the low word, and those of the high one
lows : Cells → List ℕ
lows c = set_bits half c.low

highs : Cells → List ℕ
highs c = each (λ k. half + k) (set_bits half c.high)

module _ (c : Cells) where
  low_is : (k : ℕ) → k < half → has_cell c k ≡ bit_at c.low k
  unfolding has_cell
  low_is k h = rw (lt-ltb k 32 (omega (arith, half_is)))

  high_is : (k : ℕ) → has_cell c (half + k) ≡ bit_at c.high k
  unfolding has_cell
  high_is k = let e : half + k - 32 ≡ k = omega (arith, half_is) in rw (le-ltb (half + k) 32 (omega (arith, half_is)), e)

  two_words : regions_in c ≡ lows c ++ highs c
  unfolding lows highs
  two_words =
      ap (λ (n : ℕ). keep (has_cell c) (up_to n)) (sym regions_is)
      ∙ keep-halves (has_cell c) half half
      ∙ ap₂ (λ (l m : List ℕ). l ++ each (λ k. half + k) m)
      (keep_same (has_cell c) (bit_at c.low) (up_to half) (λ k h. low_is k (omega (arith, in_from 0 half k h))))
      (keep_same (λ k. has_cell c (half + k)) (bit_at c.high) (up_to half) (λ k h. high_is k))

module _ (c : Cells) where
  -- where the low word is not 0, the smallest region is its lowest set bit
  pub from_low : 0 < c.low → c.low < 4294967296 → regions_in c ≡ count_trailing_zeros 32 c.low ∷ regions_in (record { low = bit_and c.low (c.low - 1); high = c.high })
  unfolding lows highs
  from_low h u =
      two_words c
      ∙ ap (λ (l : List ℕ). l ++ highs c) (bits_lowest half c.low h (rw half_is u))
      ∙ ap₂ (λ (k : ℕ) (l : List ℕ). count_trailing_zeros k c.low ∷ l) half_is (sym (two_words (record { low = bit_and c.low (c.low - 1); high = c.high })))

  -- where it is 0, that of the high word
  pub from_high : c.low ≡ 0 → 0 < c.high → c.high < 4294967296
      → regions_in c ≡ (32 + count_trailing_zeros 32 c.high) ∷ regions_in (record { low = c.low; high = bit_and c.high (c.high - 1) })
  unfolding lows highs
  from_high e h u =
      let none : lows c ≡ [] = rw e (bits_none half) in
      two_words c
      ∙ rw (none, bits_lowest half c.high h (rw half_is u))
      (ap₂ (λ (k : ℕ) (l : List ℕ). (k + count_trailing_zeros k c.high) ∷ l) half_is (sym (two_words (record { low = c.low; high = bit_and c.high (c.high - 1) }) ∙ rw none)))

  pub nothing : c.low ≡ 0 → c.high ≡ 0 → regions_in c ≡ []
  unfolding lows highs
  nothing e f = two_words c ∙ rw (e, f, bits_none half)

  -- with no low bit the set is empty exactly if there is no high one
  pub empty_by : c.low ≡ 0 → c.high < 4294967296 → eqb c.high 0 ≡ is_empty (regions_in c)
  empty_by e u =
      cases (eqb c.high 0)
      (λ z. z ∙ sym (ap is_empty (nothing e (eqb-true c.high 0 z))))
      (λ z. let some = eqb-false c.high 0 z in z ∙ sym (ap is_empty (from_high e (omega arith) u)))

  -- so that a set which is not empty has a bit in one of them
  pub some_high : c.low ≡ 0 → c.high < 4294967296 → is_empty (regions_in c) ≡ false → 0 < c.high
  some_high e u n = let z = eqb-false c.high 0 (empty_by e u ∙ n) in omega arith

  pub counted : c.low < 4294967296 → c.high < 4294967296 → ones c.low + ones c.high ≡ length (regions_in c)
  unfolding lows highs
  counted u v =
      let high = length-each (λ k. half + k) (set_bits half c.high) in
      omega (arith, bits_count half c.low (rw half_is u), bits_count half c.high (rw half_is v), length-append (lows c) (highs c), ap length (two_words c))

all-regions : (r : ℕ) → In r (up_to regions) → r < 64
all-regions r h = omega (arith, in_from 0 regions r h, regions_is, half_is)

-- each is below 64
pub listed_less : (c : Cells) (r : ℕ) → In r (regions_in c) → r < 64
listed_less c r h = all-regions r (keep-in (has_cell c) (up_to regions) r h).0

-- of a test's words they are those that pass it
pub listed_by : (test : ℕ → Bool) → regions_in (cells_by test) ≡ keep test (up_to regions)
listed_by test = keep_same (has_cell (cells_by test)) test (up_to regions) (λ r h. has_by test r (all-regions r h))

-- of those of both sets, the ones of the first are kept that the second has
pub both_listed : (f h : ℕ → Bool) → regions_in (both_cells (cells_by f) (cells_by h)) ≡ keep (has_cell (cells_by h)) (keep f (up_to regions))
both_listed f h =
    ap regions_in (both_by f h)
    ∙ listed_by (λ k. f k && h k)
    ∙ keep_both f h (up_to regions)
    ∙ keep_same h (has_cell (cells_by h)) (keep f (up_to regions)) (λ r k. sym (has_by h r (all-regions r (keep-in f (up_to regions) r k).0)))

-- there are at most 64
pub listed_few : (c : Cells) → length (regions_in c) ≤ 64
listed_few c = omega (arith, length-keep (has_cell c) (up_to regions), length_from 0 regions, regions_is, half_is)
