-- For the reader: what is told of whether there is any stand, held against the range question on the same letters and rectangle.
-- Wherever the promises' ground holds, be it a lawful set or a lawful session too. Assumes nothing.
use mathlib.Core.Path.{◌≡◌, refl, sym, ap, ◌∙◌, subst}
use mathlib.Core.Logic.{◌⊎◌, inl, inr}
use mathlib.Core.Bool.{true, false}
use mathlib.Core.List.{List, [], ◌∷◌}
use Prim.Native.Nat.{ℕ, zero, suc}
use native.Mathlib.Omega.{arith}
use lib.ListN.{length}
use borrow.Author.Tests.{lt-leb}
use Rattle.base.specs.Lists.{is_empty}
use Rattle.base.proofs.Tests.{never}
use Rattle.rules.specs.declared.Grid.{Grid}
use Rattle.rules.specs.declared.Rect.{Rect}
use Rattle.rules.specs.Numbers.{AnyTold, telling}
use Rattle.rules.specs.Tables.{Table}
use Rattle.rules.specs.Questions.{range_list, range_refusal}
use Rattle.rules.specs.Outcomes.{Outcome, outcome, refused, range_outcome, any_outcome}
use Rattle.rules.specs.Promises.{RangeKept, AnyKept}
use Rattle.rules.proofs.Outcomes.{any_tells_refusal}

-- a list begins with a stand
abbrev pub BeginsWith : ℕ → List ℕ → Type 0
BeginsWith s list = (rest : List ℕ) × (list ≡ s ∷ rest)

-- ---- of any list

yes_begins : (n : ℕ) (list : List ℕ) → (any_outcome n list).yes ≡ 1 → BeginsWith (any_outcome n list).stand list
yes_begins zero [] y = absurd (omega arith)
yes_begins zero (s ∷ list) y = (list, refl)
yes_begins (suc n) list y = absurd (omega arith)

some_yes : (list : List ℕ) → is_empty list ≡ false → (any_outcome 0 list).yes ≡ 1
some_yes [] e = never true refl e
some_yes (s ∷ list) e = refl

none_told : (n : ℕ) (list : List ℕ) → (any_outcome n list).yes ≡ 0 → (any_outcome n list).stand ≡ 0
none_told zero [] z = refl
none_told zero (s ∷ list) z = absurd (omega arith)
none_told (suc n) list z = refl

-- what both questions come to, the range question with room for one: both refuse alike; or there is no stand; or there is one alone, the same;
-- or there are several, too many for the room
abbrev pub Agree : AnyTold → List ℕ → Outcome → Type 0
Agree a room o =
    ((a.refusal ≡ 0 → ⊥) × (o ≡ refused a.refusal (room ∷ [])))
    ⊎ ((a.yes ≡ 0) × (o ≡ outcome (telling 0) (room ∷ [])))
    ⊎ ((a.yes ≡ 1) × (o ≡ outcome (telling 1) ((a.stand ∷ []) ∷ [])))
    ⊎ ((a.yes ≡ 1) × (o.told.refusal ≡ 13))

agree : (n : ℕ) (list : List ℕ) (x : ℕ) → Agree (any_outcome n list) (x ∷ []) (range_outcome n list ((x ∷ []) ∷ []))
agree zero [] x = inr (inl (refl, refl))
agree zero (s ∷ []) x = inr (inr (inl (refl, refl)))
agree zero (s ∷ u ∷ list) x = inr (inr (inr (refl, rw (lt-leb (length (s ∷ u ∷ list)) 1 (omega arith)))))
agree (suc n) list x = inl ((λ e. omega arith), refl)

one_place : (room : List ℕ) → length room ≡ 1 → (x : ℕ) × (room ≡ x ∷ [])
one_place [] e = absurd (omega arith)
one_place (x ∷ []) e = (x, refl)
one_place (x ∷ y ∷ l) e = absurd (omega arith)

-- ---- of the promises

module _ (Lawful : Type 0) (law : Lawful) (t : Table) (g : Grid) (p : List ℕ) (r : Rect) (a : AnyTold) (k : AnyKept Lawful t g p r a) where
  -- it is refused as the range question is for its text and rectangle
  pub any_refuses : a.refusal ≡ range_refusal p r
  any_refuses = rw (k.exact law) (any_tells_refusal (range_refusal p r) (range_list t g p r))

  -- yes is told only of a range that begins with the stand that is told
  pub yes_is_first : a.yes ≡ 1 → BeginsWith a.stand (range_list t g p r)
  yes_is_first = subst (λ (b : AnyTold). b.yes ≡ 1 → BeginsWith b.stand (range_list t g p r)) (sym (k.exact law)) (yes_begins (range_refusal p r) (range_list t g p r))

  -- and of every range, not refused, that is not empty
  pub any_is_yes : a.refusal ≡ 0 → is_empty (range_list t g p r) ≡ false → a.yes ≡ 1
  any_is_yes fine some =
      ap (λ (b : AnyTold). b.yes) (k.exact law) ∙ ap (λ (n : ℕ). (any_outcome n (range_list t g p r)).yes) (sym any_refuses ∙ fine) ∙ some_yes (range_list t g p r) some

  -- no stand is told without a yes
  pub no_stand-told : a.yes ≡ 0 → a.stand ≡ 0
  no_stand-told = subst (λ (b : AnyTold). b.yes ≡ 0 → b.stand ≡ 0) (sym (k.exact law)) (none_told (range_refusal p r) (range_list t g p r))

  -- the two questions agree
  pub questions_agree : (room : List ℕ) → length room ≡ 1 → (o : Outcome) → RangeKept Lawful t g p r (room ∷ []) o → Agree a room o
  questions_agree room one o q =
      let x = one_place room one in
      rw (k.exact law, q.exact law, x.1) (agree (range_refusal p r) (range_list t g p r) x.0)
