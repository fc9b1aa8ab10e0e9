-- Lists put together from parts, by place: parts of any lengths by the sum of the lengths before, rows of one width by their number.
-- Assumes nothing.
use mathlib.Core.Path.{◌≡◌, refl, ap, ◌∙◌}
use mathlib.Core.List.{List, [], ◌∷◌}
use Prim.Native.Nat.{ℕ, zero, suc, ◌+◌, ◌*◌, ◌<◌}
use native.Mathlib.Omega.{arith}
use native.Mathlib.Nat.{suc-mul, zero-add, add_assoc}
use lib.ListN.{length, take, get_or, length-append, get_or-append}
use lib.Seq.{length-take-le, get_or-append-add}
use Rattle.base.specs.Lists.{each, each_list, total}

module _ {A B : Type 0} (f : A → List B) where
  pub length_parts : (l : List A) → length (each_list f l) ≡ total (each (λ x. length (f x)) l)
  length_parts [] = refl
  length_parts (x ∷ l) = length-append (f x) (each_list f l) ∙ ap (λ (n : ℕ). length (f x) + n) (length_parts l)

  pub get_or_parts : (d : A) (z : B) (l : List A) (j k : ℕ) → j < length l → k < length (f (get_or l j d))
      → get_or (each_list f l) (total (each (λ x. length (f x)) (take j l)) + k) z ≡ get_or (f (get_or l j d)) k z
  get_or_parts d z [] j k h u = absurd (omega arith)
  get_or_parts d z (x ∷ l) zero k h u = rw zero-add (get_or-append (f x) (each_list f l) z k u)
  get_or_parts d z (x ∷ l) (suc j) k h u = rw (add_assoc, get_or-append-add) (get_or_parts d z l j k (omega arith) u)

  module _ (w : ℕ) (wide : (x : A) → length (f x) ≡ w) where
    total_rows : (l : List A) → total (each (λ x. length (f x)) l) ≡ length l * w
    total_rows [] = omega arith
    total_rows (x ∷ l) = rw (wide x, total_rows l, suc-mul) (omega arith)

    pub length_rows : (l : List A) → length (each_list f l) ≡ length l * w
    length_rows l = length_parts l ∙ total_rows l

    pub get_or_rows : (d : A) (z : B) (l : List A) (j k : ℕ) → j < length l → k < w → get_or (each_list f l) (j * w + k) z ≡ get_or (f (get_or l j d)) k z
    get_or_rows d z l j k h u =
        let before : total (each (λ x. length (f x)) (take j l)) ≡ j * w = total_rows (take j l) ∙ ap (λ (n : ℕ). n * w) (length-take-le j l (omega arith)) in
        rw before at (get_or_parts d z l j k h (rw (wide (get_or l j d)) u))
