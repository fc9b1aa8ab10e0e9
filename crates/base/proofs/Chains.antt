-- What a chain over the numbers of a range comes to, in the finder's own words. Assumes nothing.
use Prim.Native.Nat.{ℕ, zero, suc, ◌+◌, ◌-◌}
use mathlib.Core.Path.{◌≡◌, refl, ap, ap₂, ◌∙◌}
use mathlib.Core.Bool.{Bool, true, false, ◌&&◌}
use mathlib.Core.List.{List}
use native.Mathlib.Omega.{arith}
use denote.Param.Members.{Mut}
use Rattle.std.specs.Prelude.{Option}
use Rattle.std.specs.declared.ops.Range.{Range}
use Rattle.std.specs.Fn.{Called}
use Rattle.std.specs.Iterator.{YieldsThen}
use Rattle.std.specs.List.{list_all, range_with_len, FoldsTo}
use Rattle.std.specs.Option.{MatchOption}
use Rattle.std.proofs.iter.Yields.{nat_range_steps}
use Rattle.std.proofs.lemmas.Iterator.{YieldsList-from_range}
use Rattle.std.proofs.lemmas.Iterator.Search.{all_from_yields_List}
use Rattle.base.specs.Lists.{all, from_on, up_to}

all_in_range : (test : ℕ → Bool) (a n : ℕ) → list_all test (range_with_len a n) ≡ all test (from_on a n)
all_in_range test a zero = refl
all_in_range test a (suc n) = let e : a + 1 ≡ suc a = omega arith in ap (λ b. test a && b) (ap (λ k. list_all test (range_with_len k n)) e ∙ all_in_range test (suc a) n)

all_later : (near : ℕ → ℕ → Bool) (a n : ℕ) → all (λ i. near (i - 1) i) (from_on (suc a) n) ≡ all (λ i. near i (i + 1)) (from_on a n)
all_later near a zero = refl
all_later near a (suc n) =
    let e : suc a - 1 ≡ a = omega arith in
    let l : suc a ≡ a + 1 = omega arith in
    ap₂ ◌&&◌ (ap₂ near e l) (all_later near (suc a) n)

-- the clause `ran` of `(a..b).all(..)`, and what its closure is to answer
abbrev pub Ran : {F : Type 0} → Mut F (ℕ × Unit {0}) Bool → Range ℕ → F → Bool → ℕ → ℕ → Type 0
Ran {F} g u f r a b =
    (xs : List ℕ) × (o : Option ℕ) × (j : F) × YieldsThen nat_range_steps (record { start = a; end = b }) xs o u × FoldsTo (λ p x q. Called g p (x, tt) true q) f xs j × MatchOption o (r ≡ true) (λ x. (r ≡ false) × ((h : F) × Called g j (x, tt) false h))

abbrev pub Answers : {F : Type 0} → Mut F (ℕ × Unit {0}) Bool → F → (ℕ → Bool) → Type 0
Answers {F} g f test = (x : ℕ) (t : Bool) (q : F) → Called g f (x, tt) t q → (q ≡ f) × (t ≡ test x)

module _ {F : Type 0} {g : Mut F (ℕ × Unit {0}) Bool} {u : Range ℕ} {f : F} {r : Bool} where
  all_run : (test : ℕ → Bool) (a b : ℕ) → Ran g u f r a b → Answers g f test → r ≡ all test (from_on a (b - a))
  all_run test a b ran k = all_from_yields_List test u f r ran (YieldsList-from_range a b (b - a) refl refl) k ∙ all_in_range test a (b - a)

  -- of every number below n
  pub all_below : (test : ℕ → Bool) (n : ℕ) → Ran g u f r 0 n → Answers g f test → r ≡ all test (up_to n)
  all_below test n ran k = let e : n - 0 ≡ n = omega arith in all_run test 0 n ran k ∙ ap (λ m. all test (up_to m)) e

  -- of every number below n but 0, tested with the one before it
  pub all_neighbours : (near : ℕ → ℕ → Bool) (n : ℕ) → Ran g u f r 1 n → Answers g f (λ i. near (i - 1) i) → r ≡ all (λ i. near i (i + 1)) (up_to (n - 1))
  all_neighbours near n ran k = all_run (λ i. near (i - 1) i) 1 n ran k ∙ all_later near 0 (n - 1)
