-- What an answer of the code says of what its reader got: the same value, and the place where the bytes behind it begin.
use Rattle.std.specs.Prelude.{◌≡◌, Option, Some, None, List, ℕ, ◌+◌, ◌-◌, ◌≤◌, length, take, drop}
use Rattle.std.specs.Fn.{Shared, FnReturnsAt}
use Rattle.std.specs.Borrow.{Bor}
use Rattle.lines.specs.Reads.{Got, got}
use Rattle.lines.specs.declared.reading.Part.{Part}

-- the bytes from one place of the input to another
abbrev pub part : ℕ → ℕ → List ℕ → List ℕ
part from past input = take (past - from) (drop from input)

-- a value was got, and the next line begins in the input, or at its end
pub record Reached {A : Type 0} (input : List ℕ) (f : Got A) (a : A) (next : ℕ) : Type 0 where
  pub within : next ≤ length input
  pub is : f ≡ got a (drop next input)

-- a line's value was got, as the part of the input that begins past the key
pub record PartReached (input : List ℕ) (keyed : ℕ) (f : Got (List ℕ)) (from past : ℕ) : Type 0 where
  pub begun : from ≡ keyed
  pub forward : from ≤ past
  pub reached : Reached input f (part from past input) (past + 1)

abbrev pub SaysBytes : List ℕ → ℕ → Got (List ℕ) → Option Part → Type 0
SaysBytes input keyed f (Some value) = PartReached input keyed f value.from value.past
SaysBytes input keyed f None = f ≡ None

abbrev pub Says : {A : Type 0} → List ℕ → Got A → Option (A × ℕ) → Type 0
Says input f (Some line) = Reached input f line.0 line.1
Says input f None = f ≡ None

-- a call of this closure on some bytes gives what is read of them
abbrev pub ReadsBy : {F A : Type 0} → Shared F (Bor (List ℕ) × Unit {0}) (Option A) → F → (List ℕ → Option A) → Type 0
ReadsBy g f read = (bytes : List ℕ) (r : Option _) → FnReturnsAt g f bytes r → r ≡ read bytes
