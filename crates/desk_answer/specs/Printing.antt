-- What is printed, over the columns and rooms that the code has: `hit_lines` and `found_lines` are the lines of Printed.
use Rattle.std.specs.Prelude.{List, ◌++◌, ℕ, ◌≤◌, ◌<◌, length, get_or}
use Rattle.base.specs.Lists.{up_to, each_list}
use Rattle.rules.specs.Names.{name}
use Rattle.lines.specs.Writing.{ascii, decimal_of, line}
use Rattle.lines.specs.Puts.{Puts}

unfoldable pub hit_lines : List ℕ → List ℕ → ℕ → ℕ → List ℕ
hit_lines text starts stand value =
    line (ascii "object=") (decimal_of stand) ++ line (ascii "name=") (name text starts stand) ++ line (ascii "value=") (decimal_of value)

-- the first so many hits
unfoldable pub hits_to : List ℕ → List ℕ → List ℕ → List ℕ → ℕ → List ℕ
hits_to text starts found values count = each_list (λ i. hit_lines text starts (get_or found i 0) (get_or values i 0)) (up_to count)

unfoldable pub found_lines : List ℕ → List ℕ → List ℕ → List ℕ → List ℕ
found_lines text starts found values = line (ascii "found=") (decimal_of (length found)) ++ hits_to text starts found values (length found)

-- a hit's lines were put, and are at most 96 bytes
pub record PutsHit (text starts : List ℕ) (stand value : ℕ) (out : List ℕ) (at : ℕ) (after : List ℕ) (r : ℕ) : Type 0 where
  pub puts : Puts (hit_lines text starts stand value) out at after r
  pub short : length (hit_lines text starts stand value) ≤ 96

-- no more stands were found than a question may ask for, with names that a table may have
pub record NamesListed (text starts found : List ℕ) : Type 0 where
  pub few : length found ≤ 16
  pub short : (i : ℕ) → i < length found → length (name text starts (get_or found i 0)) ≤ 24
