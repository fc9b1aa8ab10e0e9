-- Bytes put one behind the other: two puts in a row are one.
-- Assumes nothing.
use mathlib.Core.Path.{◌≡◌, refl, sym, ap, ◌∙◌}
use mathlib.Core.List.{List, [], ◌++◌, append_assoc, append-nil}
use Prim.Native.Nat.{ℕ, ◌+◌, ◌≤◌}
use native.Mathlib.Omega.{arith}
use lib.ListN.{length, take, drop, length-append}
use lib.Seq.{drop-drop}
use Rattle.lines.specs.Writing.{ascii, line}
use Rattle.lines.specs.Puts.{Puts}

pub none_put : (out : List ℕ) (at : ℕ) → Puts [] out at out at
none_put out at = record { next = omega arith; front = sym (append-nil (take at out)); rest = refl }

module _ {out after : List ℕ} {at r : ℕ} where
  pub then : {a b : List ℕ} {last : List ℕ} {r' : ℕ} → Puts a out at after r → Puts b after r last r' → Puts (a ++ b) out at last r'
  then {a} {b} {last} {r'} p q =
      record {
        next = omega (arith, p.next, q.next, length-append a b);
        front = q.front ∙ ap (λ l. l ++ b) p.front ∙ append_assoc (take at out) a b;
        rest = q.rest ∙ rw q.next (sym (drop-drop (length b) r after) ∙ ap (drop (length b)) p.rest ∙ drop-drop (length b) r out);
      }

pub line-long : (key value : List ℕ) → length (line key value) ≡ length key + (length value + 1)
unfolding line
line-long key value = length-append key (value ++ ascii "\n") ∙ ap (λ n. length key + n) (length-append value (ascii "\n"))

-- whether a line has room, and where the next one goes
pub line-room : (key value : List ℕ) (at long : ℕ) → at + (length key + (length value + 1)) ≤ long → at + length (line key value) ≤ long
line-room key value at long h = omega (arith, line-long key value)

pub past-line : {out after : List ℕ} {at r : ℕ} (key value : List ℕ) → Puts (line key value) out at after r → r ≡ at + (length key + (length value + 1))
past-line key value p = omega (arith, p.next, line-long key value)
