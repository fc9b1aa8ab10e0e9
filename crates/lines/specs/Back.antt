-- What is written is read back, and nothing else is read: for a number by itself and for a line, whatever stands behind it.
use Rattle.std.specs.Prelude.{◌≡◌, Option, Some, List, ◌++◌, ℕ, ◌≤◌}
use Rattle.lines.specs.Writing.{decimal_of, signed_of, line, Signed32, OneLine}
use Rattle.lines.specs.Reads.{got, Reader, decimal_in, signed_in, bytes_line, unsigned_line, signed_line}

-- bytes are read as a value exactly if they are what is written of it, and it is in order
pub record ValueBack {A : Type 0} (write : A → List ℕ) (InOrder : A → Type 0) (read : List ℕ → Option A) : Type 0 where
  pub back : (a : A) → InOrder a → read (write a) ≡ Some a
  pub sound : (a : A) (l : List ℕ) → read l ≡ Some a → InOrder a × (l ≡ write a)

-- the same of a reader, which leaves what is behind
pub record ReadBack {A : Type 0} (write : A → List ℕ) (InOrder : A → Type 0) (read : Reader A) : Type 0 where
  pub back : (a : A) (rest : List ℕ) → InOrder a → read (write a ++ rest) ≡ got a rest
  pub sound : (l : List ℕ) (a : A) (rest : List ℕ) → read l ≡ got a rest → InOrder a × (l ≡ write a ++ rest)

pub record WrittenReadBack : Type 0 where
  pub decimal : (most : ℕ) → ValueBack decimal_of (λ n. n ≤ most) (decimal_in most)
  pub signed : ValueBack signed_of Signed32 signed_in
  pub bytes_line : (key : List ℕ) → ReadBack (line key) OneLine (bytes_line key)
  pub unsigned_line : (most : ℕ) (key : List ℕ) → ReadBack (λ n. line key (decimal_of n)) (λ n. n ≤ most) (unsigned_line most key)
  pub signed_line : (key : List ℕ) → ReadBack (λ z. line key (signed_of z)) Signed32 (signed_line key)
