-- A signed number from its digits, as the machine makes it: cast, or one below 0 and then down.
-- Assumes nothing.
use mathlib.Core.Path.{◌≡◌, sym, ap, ◌∙◌}
use mathlib.Core.Bool.{true, false}
use mathlib.Core.List.{List}
use Rattle.std.specs.Prelude.{Option, Some, None, SomeIff}
use Prim.Native.Nat.{ℕ, zero, suc, ◌≤◌, ◌<◌}
use native.Mathlib.Omega.{arith}
use lib.IntN.{ℤ, pos, negsuc, ◌-ℤ◌}
use lib.Dec.{eqb}
use Rattle.std.specs.Cmp.Lexicographic.{pointwise}
use lib.ListN.{take, drop}
use borrow.Author.Rules.{rules}
use Rattle.std.proofs.lemmas.Int.{ints}
use mir.Syntax.{w32}
use mir.Val.{SFits, to_z}
use mir.Facts.{to_z_pos}
use Rattle.base.specs.Lists.{begins}
use Rattle.lines.specs.Writing.{ascii}
use Rattle.lines.specs.Reads.{decimal_in, signed_in, negated}
use Rattle.lines.proofs.Places.{key_test}
use Rattle.lines.proofs.Decimals.{decimal_law}

-- by the library's test of the sign
module _ (l : List ℕ) (plain : pointwise eqb (take 1 l) (ascii "-") ≡ false) where
  no_sign : begins (ascii "-") l ≡ false
  no_sign = sym (key_test (ascii "-") l) ∙ plain

  pub plain_none : None ≡ decimal_in 2147483647 l → None ≡ signed_in l
  unfolding signed_in
  plain_none e = rw (no_sign, ← e)

  module _ (n : ℕ) (is : Some n ≡ decimal_in 2147483647 l) where
    pub plain_fits : SFits w32 (pos n)
    plain_fits = record { sfits = omega (arith, ((decimal_law 2147483647).sound n l (sym is)).0) }

    pub plain_some : Some (to_z w32 n) ≡ signed_in l
    unfolding signed_in
    plain_some = rw (no_sign, ← is, to_z_pos w32 {n = n} (omega (arith, plain_fits.sfits)))

-- below 0
down : (n : ℕ) → pos 0 -ℤ pos (suc n) ≡ negsuc n
down n = search (rules, ints)

negated_pos : (n : ℕ) → 0 < n → Some (pos 0 -ℤ pos n) ≡ negated (Some n)
negated_pos zero h = absurd (omega arith)
negated_pos (suc n) h = ap Some (down n)

down_fits : (n : ℕ) → 0 < n → n ≤ 2147483648 → SFits w32 (pos 0 -ℤ pos n)
down_fits zero h k = absurd (omega arith)
down_fits (suc n) h k = rw (down n) (record { sfits = omega arith })

module _ (l below : List ℕ) (minus : pointwise eqb (take 1 l) (ascii "-") ≡ true) (is-below : below ≡ drop 1 l) where
  sign : begins (ascii "-") l ≡ true
  sign = sym (key_test (ascii "-") l) ∙ minus

  negative : (o : Option ℕ) → o ≡ decimal_in 2147483648 below → negated o ≡ signed_in l
  unfolding signed_in
  negative o e = rw (sign, ← is-below, e)

  pub minus_none : None ≡ decimal_in 2147483648 below → None ≡ signed_in l
  minus_none e = negative None e

  module _ (n : ℕ) (is : Some n ≡ decimal_in 2147483648 below) where
    pub minus_zero : n ≡ 0 → None ≡ signed_in l
    minus_zero e = negative (Some 0) (ap Some (sym e) ∙ is)

    pub minus_some : (o : Option ℤ) → (n ≡ 0 → ⊥) → SomeIff o (SFits w32 (pos 0 -ℤ pos n)) (pos 0 -ℤ pos n) → o ≡ signed_in l
    minus_some None h r = absurd (r (down_fits n (omega arith) ((decimal_law 2147483648).sound n below (sym is)).0))
    minus_some (Some z) h r = ap Some r.1 ∙ negated_pos n (omega arith) ∙ negative (Some n) is
