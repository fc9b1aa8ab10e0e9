-- The cursor's step, over plain lists: past a stand's nodes come the next stand's new ones. Assumes nothing.
use mathlib.Core.Path.{◌≡◌, refl, ap, ◌∙◌}
use mathlib.Core.Logic.{⊎_elim}
use mathlib.Core.List.{List, [], ◌∷◌}
use Prim.Native.Nat.{ℕ, zero, suc, ◌+◌, ◌-◌, ◌≤◌, ◌<◌}
use native.Mathlib.Omega.{arith}
use native.Mathlib.Numerals.{add-one}
use lib.ListN.{length, get_or-eq_default}
use Rattle.base.proofs.Tests.{le_or_lt}
use Rattle.node.specs.Columns.{at, Grows}
use Rattle.node.specs.declared.cursor.Cursor.{Cursor}
use Rattle.node.specs.Visits.{visits_from, grown_before, On, Stepped}
use Rattle.node.proofs.Ends.{grown_last}

module _ (lengths shared : List ℕ) where
  visits_next : (i l : ℕ) → i < length lengths → l ≡ suc (at lengths i) → visits_from lengths shared (suc i) (suc (at shared (suc i))) ≡ visits_from lengths shared i l
  unfolding visits_from
  visits_next i l h e =
      let none : suc (at lengths i) - l ≡ 0 = omega arith in
      rw none
      (⊎_elim
      (λ (q : length lengths ≤ suc i).
      let w : length lengths - suc i ≡ 0 = omega arith in
      let v : length lengths - suc (suc i) ≡ 0 = omega arith in
      let u : at lengths (suc i) ≡ 0 = get_or-eq_default lengths 0 q in
      let t : suc (at lengths (suc i)) - suc (at shared (suc i)) ≡ 0 = omega (arith, u) in
      rw (w, v, t))
      (λ (q : suc i < length lengths). let w : length lengths - suc i ≡ suc (length lengths - suc (suc i)) = omega arith in rw w)
      (le_or_lt (length lengths) (suc i)))

  pub visits_done : (i l : ℕ) → length lengths ≤ i → 0 < l → visits_from lengths shared i l ≡ []
  unfolding visits_from
  visits_done i l h k =
      let w : length lengths - suc i ≡ 0 = omega arith in
      let u : at lengths i ≡ 0 = get_or-eq_default lengths 0 h in
      let t : suc (at lengths i) - l ≡ 0 = omega (arith, u) in
      rw (w, t)

  pub visits_first : (i l : ℕ) → l ≤ at lengths i → visits_from lengths shared i l ≡ record { stand = i; length = l } ∷ visits_from lengths shared i (suc l)
  unfolding visits_from
  visits_first i l h = let t : suc (at lengths i) - l ≡ suc (suc (at lengths i) - suc l) = omega arith in rw t

-- on the way to the next node: at stand i, of which lengths below l are passed
pub record Here (lengths shared : List ℕ) (number i l : ℕ) : Type 0 where
  pub short : l ≤ suc (at lengths i)
  pub new : at shared i < l
  pub count : number + suc (at shared i) ≡ grown_before lengths shared i + l

pub record Stepping (lengths shared : List ℕ) (i₀ l₀ number i l : ℕ) : Type 0 where
  pub after : i₀ ≤ i
  pub within : i ≤ length lengths
  pub some : 0 < l
  pub visits : visits_from lengths shared i l ≡ visits_from lengths shared i₀ l₀
  pub here : i < length lengths → Here lengths shared number i l

module _ (lengths shared : List ℕ) (g : Grows lengths shared) where
  pub stepping : (c : Cursor) → On lengths shared c → Stepping lengths shared c.stand.0 (c.length + 1) (c.number.0 + 1) c.stand.0 (c.length + 1)
  stepping c o =
      record {
        after = omega arith;
        within = o.within;
        some = omega arith;
        visits = refl;
        here = λ h. record { short = omega (arith, o.long); new = new c.stand.0 o.new; count = omega (arith, o.count) };
      }
    where
      new : (i : ℕ) → (0 < i → at shared i < c.length) → at shared i < c.length + 1
      new zero f = omega (arith, g.first)
      new (suc i) f = omega (arith, f (omega arith))

  module _ (i₀ l₀ number : ℕ) where
    pub stepping_more : (i l w : ℕ) → Stepping lengths shared i₀ l₀ number i l → i < length lengths → at lengths i < l → w ≡ at shared (i + 1)
        → Stepping lengths shared i₀ l₀ number (i + 1) (w + 1)
    stepping_more i l w s h lt e =
        let p = s.here h in
        let full : l ≡ suc (at lengths i) = omega (arith, p.short) in
        let e' : w ≡ at shared (suc i) = e ∙ ap (at shared) (add-one i) in
        let v : visits_from lengths shared (i + 1) (w + 1) ≡ visits_from lengths shared (suc i) (suc (at shared (suc i))) =
        ap (λ (x : ℕ). visits_from lengths shared x (w + 1)) (add-one i) ∙ ap (visits_from lengths shared (suc i)) (add-one w ∙ ap suc e') in
        record {
          after = omega (arith, s.after);
          within = omega arith;
          some = omega arith;
          visits = v ∙ visits_next lengths shared i l h full ∙ s.visits;
          here = λ k. record {
            short = omega (arith, e, g.part (i + 1) k);
            new = omega (arith, e);
            count = omega (arith, p.count, grown_last lengths shared 0 i (omega arith), g.part i h, e);
          };
        }

  pub stepped : (c : Cursor) (held kept i l : ℕ) → Stepping lengths shared c.stand.0 (c.length + 1) (c.number.0 + 1) i l → (i < length lengths → l ≤ at lengths i)
      → Stepped lengths shared c held kept (record { stand = record { 0 = i }; length = l; number = record { 0 = c.number.0 + 1 }; entries = c.entries + held; records = c.records + kept })
  stepped c held kept i l s f =
      record {
        visits = s.visits ∙ ap (visits_from lengths shared c.stand.0) (add-one c.length);
        number = add-one c.number.0;
        entries = refl;
        records = refl;
        after = s.after;
        within = s.within;
        some = s.some;
        on = λ h. let p = s.here h in record { within = s.within; long = f h; new = λ _. p.new; count = p.count };
      }
