-- A question's promise through the numbers that C is told. Assumes nothing.
use mathlib.Core.Path.{◌≡◌, sym, ap, subst}
use mathlib.Core.List.{List}
use Prim.Native.Nat.{ℕ}
use Rattle.rules.specs.Numbers.{Told}
use Rattle.rules.specs.Outcomes.{Outcome, outcome}
use Rattle.rules.specs.Promises.{Kept}

pub same_kept : {Item Out : Type 0} (Lawful : Type 0) (comes_to : List Item → Out) (meant : List Item) (seven told numbers : Out)
    → told ≡ numbers → Kept Lawful comes_to meant seven numbers → Kept Lawful comes_to meant seven told
same_kept Lawful comes_to meant seven told numbers e k = subst (Kept Lawful comes_to meant seven) (sym e) k

-- with rooms
pub told-kept : {Item : Type 0} (Lawful : Type 0) (comes_to : List Item → Outcome) (meant : List Item) (seven : Outcome) (after : List (List ℕ)) (told numbers : Told)
    → told ≡ numbers → Kept Lawful comes_to meant seven (outcome numbers after) → Kept Lawful comes_to meant seven (outcome told after)
told-kept Lawful comes_to meant seven after told numbers e = same_kept Lawful comes_to meant seven _ _ (ap (λ (n : Told). outcome n after) e)
