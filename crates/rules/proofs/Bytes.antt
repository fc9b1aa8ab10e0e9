-- The byte rule, range by range; names whose length is allowed, and typed texts that are not refused.
-- Assumes nothing.
use mathlib.Core.Path.{◌≡◌}
use mathlib.Core.Bool.{true, false, not, and-true}
use mathlib.Core.List.{List}
use Prim.Native.Nat.{ℕ, ◌≤◌, ◌<◌}
use native.Mathlib.Omega.{arith}
use lib.Dec.{ltb}
use lib.ListN.{length}
use borrow.Author.Tests.{not-false, ltb-false, le-ltb, lt-leb, le-leb, ne_eqb}
use Rattle.base.specs.Lists.{all, every}
use Rattle.base.proofs.Tests.{missed}
use Rattle.rules.specs.Names.{allowed, name_allowed, text_refusal}

pub name_bytes : (n : List ℕ) → 1 ≤ length n → length n ≤ 24 → name_allowed n ≡ all allowed n
unfolding name_allowed every
name_bytes n h k = rw (le-leb _ _ h, le-leb _ _ k) (and-true (all allowed n))

-- a typed text that is not refused
module _ (p : List ℕ) where
  pub text_parts : text_refusal p ≡ 0 → (length p ≤ 24) × (all allowed p ≡ true)
  unfolding text_refusal
  text_parts e =
      let a = missed (ltb 24 (length p)) (λ z. omega arith) e in
      let b = missed (not (all allowed p)) (λ z. omega arith) a.1 in
      (ltb-false _ _ a.0, not-false _ b.0)

  pub text_taken : length p ≤ 24 → all allowed p ≡ true → text_refusal p ≡ 0
  unfolding text_refusal
  text_taken h k = rw (le-ltb 24 (length p) h, k)

-- the byte rule, range by range
module _ (b : ℕ) where
  pub space : b ≡ 32 → allowed b ≡ true
  unfolding allowed
  space e = rw e

  pub digit : 48 ≤ b → b < 58 → allowed b ≡ true
  unfolding allowed
  digit h k = rw (lt-leb 97 b (omega arith), le-leb 48 b h, le-leb b 57 (omega arith))

  pub letter : 97 ≤ b → b < 123 → allowed b ≡ true
  unfolding allowed
  letter h k = rw (le-leb 97 b h, le-leb b 122 (omega arith))

  pub below : (b ≡ 32 → ⊥) → b < 48 → allowed b ≡ false
  unfolding allowed
  below n h = rw (lt-leb 97 b (omega arith), lt-leb 48 b h, ne_eqb b 32 n)

  pub between : 58 ≤ b → b < 97 → allowed b ≡ false
  unfolding allowed
  between h k = rw (lt-leb 97 b k, le-leb 48 b (omega arith), lt-leb b 57 (omega arith), ne_eqb b 32 (λ e. omega arith))

  pub above : 123 ≤ b → allowed b ≡ false
  unfolding allowed
  above h = rw (le-leb 97 b (omega arith), lt-leb b 122 (omega arith), le-leb 48 b (omega arith), lt-leb b 57 (omega arith), ne_eqb b 32 (λ e. omega arith))
