-- Bools: the two cases of one, the parts of `&&` and `||`, tests in a row; and what an `if` of the code says of a definition.
-- Assumes nothing.
use mathlib.Core.Path.{◌≡◌, refl, sym, ◌∙◌}
use mathlib.Core.Logic.{◌⊎◌, inl, inr}
use mathlib.Core.Bool.{Bool, true, false, cond, not, ◌&&◌, ◌||◌, true≢false, false≢true, and-false}
use mathlib.Core.List.{List, [], ◌∷◌}
use Prim.Native.Nat.{ℕ, zero, suc, ◌<◌, ◌≤◌}
use lib.Dec.{leb}
use lib.ListN.{get_or}
use borrow.Table.Steps.{cases}
use borrow.Author.Tests.{leb-true, leb-false, not-true, not-false}
use Rattle.base.specs.Lists.{every}

-- a test is one of the two, kept as an equation
pub which : (b : Bool) → (b ≡ true) ⊎ (b ≡ false)
which true = inl refl
which false = inr refl

pub never : {A : Type 0} (b : Bool) → b ≡ true → b ≡ false → A
never b p q = absurd (true≢false (sym p ∙ q))

pub refuted : (b : Bool) → (b ≡ true → ⊥) → b ≡ false
refuted true h = absurd (h refl)
refuted false h = refl

-- two tests are the same where each holds if the other does
pub both_ways : (a b : Bool) → (a ≡ true → b ≡ true) → (b ≡ true → a ≡ true) → a ≡ b
both_ways true b to from = sym (to refl)
both_ways false true to from = from refl
both_ways false false to from = refl

-- one of the two holds and the other does not
abbrev pub Unlike : Bool → Bool → Type 0
Unlike a b = ((a ≡ true) × (b ≡ false)) ⊎ ((a ≡ false) × (b ≡ true))

-- two tests say the same, or they do not
pub alike : (a b : Bool) → (a ≡ b) ⊎ Unlike a b
alike true true = inl refl
alike true false = inr (inl (refl, refl))
alike false true = inr (inr (refl, refl))
alike false false = inl refl

pub le_or_lt : (a b : ℕ) → (a ≤ b) ⊎ (b < a)
le_or_lt a b = cases (leb a b) (λ e. inl (leb-true a b e)) (λ e. inr (leb-false a b e))

pub and_left : (a b : Bool) → (a && b) ≡ true → a ≡ true
and_left true b e = refl
and_left false b e = e

pub and_right : (a b : Bool) → (a && b) ≡ true → b ≡ true
and_right true b e = e
and_right false b e = absurd (false≢true e)

pub and_parts : (a b : Bool) → (a && b) ≡ true → (a ≡ true) × (b ≡ true)
and_parts a b e = (and_left a b e, and_right a b e)

pub or_cases : (a b : Bool) → (a || b) ≡ true → (a ≡ true) ⊎ (b ≡ true)
or_cases true b e = inl refl
or_cases false b e = inr e

pub or_neither : (a b : Bool) → (a || b) ≡ false → (a ≡ false) × (b ≡ false)
or_neither true b e = absurd (true≢false e)
or_neither false b e = (refl, e)

-- what a test `if !f(..)` says of f's definition, where it is taken and where it is left
pub breaks : (r d : Bool) → r ≡ d → not r ≡ true → d ≡ false
breaks r d e t = sym e ∙ not-true r t

pub holds : (r d : Bool) → r ≡ d → not r ≡ false → d ≡ true
holds r d e t = sym e ∙ not-false r t

-- what is not what a failed test gives came through the test, and what is not what a passed one gives did not
pub tested : {A : Type 0} (b : Bool) {x y no : A} → (no ≡ y → ⊥) → cond b x no ≡ y → (b ≡ true) × (x ≡ y)
tested true n e = (refl, e)
tested false n e = absurd (n e)

pub missed : {A : Type 0} (b : Bool) {x y no : A} → (x ≡ y → ⊥) → cond b x no ≡ y → (b ≡ false) × (no ≡ y)
missed true n e = absurd (n e)
missed false n e = (refl, e)

-- of tests in a row that all hold, each holds
pub every-at : (bs : List Bool) (k : ℕ) → every bs ≡ true → get_or bs k true ≡ true
unfolding every
every-at [] k e = refl
every-at (b ∷ bs) zero e = and_left b (every bs) e
every-at (b ∷ bs) (suc k) e = every-at bs k (and_right b (every bs) e)

-- each of these holds, as a product
abbrev pub Holding : List Bool → Type 0
Holding [] = Unit {0}
Holding (b ∷ bs) = (b ≡ true) × Holding bs

-- tests in a row hold where each does
pub every_of : (bs : List Bool) → Holding bs → every bs ≡ true
unfolding every
every_of [] e = refl
every_of (b ∷ bs) e = rw e.0 (every_of bs e.1)

-- one test that fails is enough
pub every_not : (bs : List Bool) (k : ℕ) → get_or bs k true ≡ false → every bs ≡ false
unfolding every
every_not [] k e = e
every_not (b ∷ bs) zero e = rw e
every_not (b ∷ bs) (suc k) e = rw (every_not bs k e) (and-false b)
