-- A walk through the runs, region by region. Assumes nothing.
use mathlib.Core.Path.{◌≡◌, refl, sym, ap, ◌∙◌}
use mathlib.Core.List.{List, [], ◌∷◌, ◌++◌}
use mathlib.Core.Logic.{inl, ⊎_elim}
use Prim.Native.Nat.{ℕ, ◌-◌, ◌≤◌, ◌<◌}
use native.Mathlib.Omega.{arith}
use Rattle.std.proofs.Math.Nat.{min-eq_left, min-eq_right, le_of_lt}
use lib.IntN.{ℤ}
use lib.ListN.{length, take, drop, length-take, length-drop, drop_of_length-le}
use lib.Seq.{slice}
use Rattle.std.specs.Prelude.{min, Result, Ok, Err}
use Rattle.base.proofs.Tests.{le_or_lt}
use Rattle.base.proofs.Members.{drop-take}
use Rattle.rules.specs.declared.Broken.{Broken}
use Rattle.grid.specs.declared.cells.Cells.{Cells}
use Rattle.grid.specs.Cells.{regions_in}
use Rattle.grid.proofs.Listed.{listed_less}
use Rattle.walk.specs.declared.entry.Entry.{Entry}
use Rattle.walk.proofs.Spelled.{within_facts, read_within}
use Rattle.runs.proofs.Sights.{stands_few, places_enough}
use Rattle.runs.specs.Sights.{Ready, Noted, entry_noted, run_by, run_of, touched_stands}

-- a run that ends before it begins
pub run-over : (order : List ℕ) (i end : ℕ) → end ≤ i → slice i end order ≡ []
run-over order i end h = drop_of_length-le (take end order) {i = i} (omega (arith, length-take end order))

-- ---- at the first of some regions

module _ (n : Noted) (r : ℕ) (a : Result Entry Broken) (read : a ≡ entry_noted n r) where
  -- its run, as the entry says that is noted for it
  pub run_there : (x : Entry) → a ≡ Ok x → run_of n r ≡ slice x.first.0 x.past.0 n.order
  run_there x e = ap (run_by n) (sym read ∙ e)

  pub run-within : (x : Entry) → a ≡ Ok x → x.past.0 ≤ n.stands
  run-within x e = (within_facts n.stands x (read_within n.entries n.stands _ a x read e)).1

  pub run-fits : (east north : List ℤ) → Ready east north n → (x : Entry) → a ≡ Ok x → x.past.0 ≤ length n.order
  run-fits east north ready x e = omega (arith, run-within x e, ready.all, places_enough east north n.order ready.agreed)

  -- the part of the order that it is, also where the entry says that it ends before it begins
  pub run_part : (x : Entry) → a ≡ Ok x → (first : ℕ) → first ≡ min x.first.0 x.past.0 → take (x.past.0 - first) (drop first n.order) ≡ run_of n r
  run_part x e first least =
      ⊎_elim
      (λ (h : x.past.0 ≤ x.first.0).
      let none : x.past.0 - first ≡ 0 = omega (arith, least ∙ min-eq_right h) in
      rw none (sym (run-over n.order x.first.0 x.past.0 h) ∙ sym (run_there x e)))
      (λ (h : x.first.0 < x.past.0).
      let same : first ≡ x.first.0 = least ∙ min-eq_left (le_of_lt h) in
      rw same (sym (drop-take x.first.0 x.past.0 n.order)) ∙ sym (run_there x e))
      (le_or_lt x.past.0 x.first.0)

-- a run is short
short_by : (n : Noted) (r : ℕ) (east north : List ℤ) → Ready east north n → (a : Result Entry Broken) → a ≡ entry_noted n r → length (run_by n a) ≤ 1024
short_by n r east north ready (Ok x) read =
    omega (arith, length-drop x.first.0 (take x.past.0 n.order), length-take x.past.0 n.order, run-within n r (Ok x) read x refl, ready.all, stands_few east north n.order ready.agreed)
short_by n r east north ready (Err e) read = omega arith

pub run-short : (n : Noted) (r : ℕ) (east north : List ℤ) → Ready east north n → length (run_of n r) ≤ 1024
run-short n r east north ready = short_by n r east north ready (entry_noted n r) refl

-- of some regions the next one, and those that come after it
module _ (left : List ℕ) (r : ℕ) (later : List ℕ) (e : left ≡ r ∷ later) where
  pub run_and_later : (n : Noted) → touched_stands n left ≡ run_of n r ++ touched_stands n later
  run_and_later n = ap (touched_stands n) e

  pub listed_next : (c : Cells) → left ≡ regions_in c → r < 64
  listed_next c h = listed_less c r (rw (sym h, e) (inl refl))
