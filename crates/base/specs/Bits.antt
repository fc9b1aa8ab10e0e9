-- Words of bits: bit i of a word says whether a test holds of base + i.
use Rattle.std.specs.Prelude.{Bool, true, false, ℕ, zero, suc, ◌+◌, ◌*◌, ◌/◌, ◌%◌, ◌^◌, eqb}

abbrev pub bit : Bool → ℕ
bit true = 1
bit false = 0

-- the sum of 2 ^ i over the i below n with test (base + i)
unfoldable pub word_of : (ℕ → Bool) → ℕ → ℕ → ℕ
word_of test base zero = 0
word_of test base (suc n) = word_of test base n + bit (test (base + n)) * 2 ^ n

-- whether bit i of a word is 1
abbrev pub bit_at : ℕ → ℕ → Bool
bit_at word i = eqb (word / 2 ^ i % 2) 1
