-- What is printed has room, line after line: a hit's lines are short, and Listing is the invariant of the loop that puts the hits.
-- Assumes nothing.
use mathlib.Core.Path.{◌≡◌}
use mathlib.Core.List.{List, ◌++◌}
use Prim.Native.Nat.{ℕ, ◌+◌, ◌*◌, ◌≤◌, ◌<◌}
use native.Mathlib.Numerals.{add-one}
use native.Mathlib.Omega.{arith}
use lib.ListN.{length, get_or, length-append}
use Rattle.base.proofs.Runs.{each_list-suc}
use Rattle.rules.specs.Names.{name}
use Rattle.lines.specs.Writing.{ascii, decimal_of, line}
use Rattle.lines.specs.Puts.{Puts}
use Rattle.lines.proofs.Appending.{none_put, then, line-long}
use Rattle.lines.proofs.Digits.{decimal_short}
use Rattle.desk_answer.specs.Printing.{hit_lines, hits_to, found_lines, PutsHit}

module _ (text starts : List ℕ) where
  pub hit_put : {out o₁ o₂ o₃ : List ℕ} {at r₁ r₂ r₃ : ℕ} (stand value : ℕ) (named : List ℕ) → stand < 18446744073709551616 → value < 18446744073709551616
      → named ≡ name text starts stand → length (name text starts stand) ≤ 24
      → Puts (line (ascii "object=") (decimal_of stand)) out at o₁ r₁ → Puts (line (ascii "name=") named) o₁ r₁ o₂ r₂ → Puts (line (ascii "value=") (decimal_of value)) o₂ r₂ o₃ r₃
      → PutsHit text starts stand value out at o₃ r₃
  unfolding hit_lines
  hit_put stand value named h k e short p q s =
      record {
        puts = then (then p (rw e at q)) s;
        short = simp (length-append, line-long) (omega (arith, decimal_short stand h, decimal_short value k));
      }

  module _ (found values : List ℕ) where
    -- i of them, from the place where the first one goes
    pub record Listing (count : ℕ) (out : List ℕ) (at : ℕ) (after : List ℕ) (r i : ℕ) : Type 0 where
      pub inside : i ≤ count
      pub puts : Puts (hits_to text starts found values i) out at after r
      pub short : length (hits_to text starts found values i) ≤ 96 * i

    pub none_listed : (count : ℕ) (out : List ℕ) (at : ℕ) → Listing count out at out at 0
    unfolding hits_to
    none_listed count out at = record { inside = omega arith; puts = none_put out at; short = omega arith }

    one_more : (i : ℕ) → hits_to text starts found values (i + 1) ≡ hits_to text starts found values i ++ hit_lines text starts (get_or found i 0) (get_or values i 0)
    unfolding hits_to
    one_more i = rw add-one (each_list-suc (λ k. hit_lines text starts (get_or found k 0) (get_or values k 0)) i)

    module _ {count : ℕ} {out : List ℕ} {at : ℕ} {after : List ℕ} {r i : ℕ} where
      pub listed_more : {last : List ℕ} {r' : ℕ} → i < count → Listing count out at after r i
          → PutsHit text starts (get_or found i 0) (get_or values i 0) after r last r' → Listing count out at last r' (i + 1)
      listed_more h s p =
          record {
            inside = omega arith;
            puts = rw (one_more i) (then s.puts p.puts);
            short = rw (one_more i) (simp length-append (omega (arith, s.short, p.short)));
          }

      pub all_listed : {before : List ℕ} → i ≡ length found → Puts (line (ascii "found=") (decimal_of (length found))) before 0 out at → Listing count out at after r i
          → Puts (found_lines text starts found values) before 0 after r
      unfolding found_lines
      all_listed e p s = rw e at (then p s.puts)
