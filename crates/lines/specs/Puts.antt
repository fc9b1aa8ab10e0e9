-- What putting bytes into a room promises: they stand behind those that were there, and all past them is as it was.
use Rattle.std.specs.Prelude.{◌≡◌, List, ◌++◌, ℕ, ◌+◌, ◌≤◌, length, take, drop}

-- there is room for these bytes from `at` on
abbrev pub RoomAt : List ℕ → ℕ → List ℕ → Type 0
RoomAt out at bytes = at + length bytes ≤ length out

-- r is the place behind the bytes that were put from `at` on
pub record Puts (bytes out : List ℕ) (at : ℕ) (after : List ℕ) (r : ℕ) : Type 0 where
  pub next : r ≡ at + length bytes
  pub front : take r after ≡ take at out ++ bytes
  pub rest : drop r after ≡ drop r out
