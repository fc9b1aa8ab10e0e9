-- What is settled of a question: a refusal whatever the list, never 7, and one outcome where the promise's ground holds.
-- Assumes nothing.
use mathlib.Core.Path.{◌≡◌, refl, sym, ap, ◌∙◌}
use mathlib.Core.Logic.{inr}
use mathlib.Core.Bool.{Bool, true, false, cond}
use mathlib.Core.List.{List, [], ◌∷◌}
use Prim.Native.Nat.{ℕ, zero, suc}
use native.Mathlib.Omega.{arith}
use lib.Dec.{ltb}
use lib.ListN.{length, get_or}
use borrow.Table.Steps.{cases}
use Rattle.base.specs.Lists.{all}
use Rattle.rules.specs.declared.Grid.{Grid}
use Rattle.rules.specs.declared.Rect.{Rect}
use Rattle.rules.specs.declared.Ranking.{Ranking}
use Rattle.rules.specs.declared.Hit.{Hit}
use Rattle.rules.specs.declared.Refusal.{Refusal}
use Rattle.rules.specs.declared.RangeRefusal.{RangeRefusal}
use Rattle.rules.specs.declared.Stand.{Stand}
use Rattle.std.specs.Prelude.{Option, Result}
use Rattle.rules.specs.Numbers.{Told, AnyTold, refusing_any, first_given, range_numbers, any_numbers, told_numbers}
use Rattle.rules.specs.Names.{allowed, text_refusal}
use Rattle.rules.specs.Places.{rect_lawful}
use Rattle.rules.specs.Tables.{Table}
use Rattle.rules.specs.Questions.{range_list, ranking, ranking_lawful, range_refusal, ranked_refusal}
use Rattle.rules.specs.Outcomes.{Outcome, refused, room_for, settled, range_outcome, any_outcome, ranked_outcome, range_came, ranked_came}
use Rattle.rules.specs.Promises.{Kept, RangeKept, AnyKept, RankedKept}
use Rattle.rules.proofs.Numbers.{one_range, one_any, one_told}

-- ---- a refusal

-- a question that is refused comes to the same whatever its list
pub settled-refused : (n places : ℕ) (short told : Told) (words rooms : List (List ℕ)) → (n ≡ 0 → ⊥) → settled n places short told words rooms ≡ refused n rooms
settled-refused zero places short told words rooms some = absurd (some refl)
settled-refused (suc n) places short told words rooms some = refl

pub any_refused : (n : ℕ) (list : List ℕ) → (n ≡ 0 → ⊥) → any_outcome n list ≡ refusing_any n
any_refused zero list some = absurd (some refl)
any_refused (suc n) list some = refl

-- so its promise is kept
pub refused-kept : {Item Out : Type 0} (Lawful : Type 0) (comes_to : List Item → Out) (meant : List Item) (seven o : Out)
    → ((list : List Item) → comes_to list ≡ o) → Kept Lawful comes_to meant seven o
refused-kept Lawful comes_to meant seven o h = record { exact = λ law. sym (h meant); harmless = inr (meant, sym (h meant)) }

-- ---- never 7

text_but_7 : (p : List ℕ) (n : ℕ) → (n ≡ 7 → ⊥) → first_given (text_refusal p) n ≡ 7 → ⊥
unfolding text_refusal
text_but_7 p n h =
    cases (ltb 24 (length p))
    (λ q. rw q (λ e. omega arith))
    (λ q. cases (all allowed p) (λ r. rw (q, r) h) (λ r. rw (q, r) (λ e. omega arith)))

limit_but_7 : (fine : Bool) (n : ℕ) → (n ≡ 7 → ⊥) → cond fine 0 n ≡ 7 → ⊥
limit_but_7 true n h e = omega arith
limit_but_7 false n h e = h e

settled_but_7 : (n places : ℕ) (short told : Told) (words rooms : List (List ℕ)) → (n ≡ 7 → ⊥) → (short.refusal ≡ 7 → ⊥) → (told.refusal ≡ 7 → ⊥)
    → (settled n places short told words rooms).told.refusal ≡ 7 → ⊥
settled_but_7 zero places short told words rooms h s a = cases (room_for places rooms) (λ q. rw q a) (λ q. rw q s)
settled_but_7 (suc n) places short told words rooms h s a = h

asked_but_7 : (p : List ℕ) (r : Rect) → range_refusal p r ≡ 7 → ⊥
asked_but_7 p r = text_but_7 p _ (limit_but_7 (rect_lawful r) 11 (λ e. omega arith))

pub range_but_7 : (p : List ℕ) (r : Rect) (list : List ℕ) (rooms : List (List ℕ)) → (range_outcome (range_refusal p r) list rooms).told.refusal ≡ 7 → ⊥
range_but_7 p r list rooms = settled_but_7 (range_refusal p r) _ _ _ _ rooms (asked_but_7 p r) (λ e. omega arith) (λ e. omega arith)

-- what is refused is told, and nothing else
pub any_tells_refusal : (n : ℕ) (list : List ℕ) → (any_outcome n list).refusal ≡ n
any_tells_refusal zero [] = refl
any_tells_refusal zero (s ∷ list) = refl
any_tells_refusal (suc n) list = refl

pub any_but_7 : (p : List ℕ) (r : Rect) (list : List ℕ) → (any_outcome (range_refusal p r) list).refusal ≡ 7 → ⊥
any_but_7 p r list e = asked_but_7 p r (sym (any_tells_refusal (range_refusal p r) list) ∙ e)

pub ranked_but_7 : (g : Grid) (p : List ℕ) (q : Ranking) (hits : List Hit) (rooms : List (List ℕ)) → (ranked_outcome (ranked_refusal g p q) q.k hits rooms).told.refusal ≡ 7 → ⊥
ranked_but_7 g p q hits rooms =
    settled_but_7 (ranked_refusal g p q) _ _ _ _ rooms (text_but_7 p _ (limit_but_7 (ranking_lawful g q) 12 (λ e. omega arith))) (λ e. omega arith) (λ e. omega arith)

-- ---- for the reader

-- where its ground holds, no two outcomes keep a promise
pub one_outcome : {Item Out : Type 0} (Lawful : Type 0) (comes_to : List Item → Out) (meant : List Item) (seven : Out) → Lawful → (o o' : Out)
    → Kept Lawful comes_to meant seven o → Kept Lawful comes_to meant seven o' → o ≡ o'
one_outcome Lawful comes_to meant seven law o o' k k' = k.exact law ∙ sym (k'.exact law)

module _ (Lawful : Type 0) (law : Lawful) (t : Table) (g : Grid) (p : List ℕ) (rooms : List (List ℕ)) where
  -- and the outcome is the answer and the rooms; it is not refused 7
  module _ (r : Rect) where
    pub range_one_outcome : (a a' : Result ℕ RangeRefusal) (found found' : List ℕ) → RangeKept Lawful t g p r rooms (range_came a found) → RangeKept Lawful t g p r rooms (range_came a' found')
        → (a ≡ a') × (found ≡ found')
    range_one_outcome a a' found found' k k' =
        let same = one_outcome Lawful _ _ _ law _ _ k k' in
        (one_range a a' (ap (λ (o : Outcome). o.told) same), ap (λ (o : Outcome). get_or o.rooms 0 []) same)

    pub range_never_7 : (a : Result ℕ RangeRefusal) (found : List ℕ) → RangeKept Lawful t g p r rooms (range_came a found) → (range_numbers a).refusal ≡ 7 → ⊥
    range_never_7 a found k e = range_but_7 p r (range_list t g p r) rooms (sym (ap (λ (o : Outcome). o.told.refusal) (k.exact law)) ∙ e)

    pub any_one_outcome : (a a' : Result (Option Stand) Refusal) → AnyKept Lawful t g p r (any_numbers a) → AnyKept Lawful t g p r (any_numbers a') → a ≡ a'
    any_one_outcome a a' k k' = one_any a a' (one_outcome Lawful _ _ _ law _ _ k k')

    pub any_never_7 : (a : Result (Option Stand) Refusal) → AnyKept Lawful t g p r (any_numbers a) → (any_numbers a).refusal ≡ 7 → ⊥
    any_never_7 a k e = any_but_7 p r (range_list t g p r) (sym (ap (λ (o : AnyTold). o.refusal) (k.exact law)) ∙ e)

  module _ (q : Ranking) where
    pub ranked_one_outcome : (a a' : Result ℕ Refusal) (found values found' values' : List ℕ)
        → RankedKept Lawful t g p q rooms (ranked_came a found values) → RankedKept Lawful t g p q rooms (ranked_came a' found' values')
        → (a ≡ a') × (found ≡ found') × (values ≡ values')
    ranked_one_outcome a a' found values found' values' k k' =
        let same = one_outcome Lawful _ _ _ law _ _ k k' in (
          one_told a a' (ap (λ (o : Outcome). o.told) same),
          ap (λ (o : Outcome). get_or o.rooms 0 []) same,
          ap (λ (o : Outcome). get_or o.rooms 1 []) same,
        )

    pub ranked_never_7 : (a : Result ℕ Refusal) (found values : List ℕ) → RankedKept Lawful t g p q rooms (ranked_came a found values) → (told_numbers a).refusal ≡ 7 → ⊥
    ranked_never_7 a found values k e = ranked_but_7 g p q (ranking t g p q) rooms (sym (ap (λ (o : Outcome). o.told.refusal) (k.exact law)) ∙ e)
