-- The steps along an axis that find a strip: cell sides are added, at most seven times, until they reach past the coordinate.
-- Assumes nothing.
use Rattle.std.proofs.Common.{◌≡◌, ℕ, suc, ◌+◌, ◌-◌, ◌*◌, ◌/◌, ◌<◌, ◌≤◌, Bool, true, false, not, leb, ltb, ℤ, pos, negsuc, ◌+ℤ◌, sym, ap, ◌∙◌, ⊎_elim, mul-le-mul_right, suc-mul, arith, to_z-of_z, w32, w64, Fits, SFits, to_z, of_z, leb-false, leb-true, ltb-true, ltb-false, refl}
use lib.Arith.{digits_div}
use lib.IntN.{+ℤ_assoc}
use lib.Signed.{le_z, lt_z}
use borrow.Table.Steps.{cases}
use borrow.Author.Tests.{lt-leb, le-leb}
use mir.Facts.{to_z_pos}
use Rattle.base.proofs.Tests.{le_or_lt}
use Rattle.rules.specs.Places.{lifted, within, strip}
use Rattle.rules.proofs.Places.{from_edge, before_end}
use Rattle.grid.proofs.Signed.{sub_up, sub_down, wide}
use Rattle.grid.proofs.Floors.{reach_order}

-- what is between two multiples is that many wholes
between : (n c k : ℕ) → k * c ≤ n → n < suc k * c → n / c ≡ k
between n c k least next =
    let split : n ≡ k * c + (n - k * c) = omega arith in
    ap (λ (m : ℕ). m / c) split ∙ digits_div k (omega (arith, suc-mul k c))

-- 64 bits hold any metre up to eight of the widest cells from an edge
reach_fits : (edge : ℤ) (n : ℕ) → SFits w32 edge → n ≤ 34359738368 → SFits w64 (edge +ℤ pos n)
reach_fits (pos e) n fe h = record { sfits = omega (arith, fe.sfits) }
reach_fits (negsuc e) n fe h =
    ⊎_elim
    (λ (g : suc e ≤ n). rw (sub_up n (suc e) g) (record { sfits = omega arith }))
    (λ (g : n < suc e). rw (sub_down n (suc e) g) (record { sfits = omega (arith, fe.sfits) }))
    (le_or_lt (suc e) n)

-- so many strips are passed; where the next one begins
pub record Stepping (edge : ℤ) (c : ℕ) (x next : ℤ) (passed : ℕ) : Type 0 where
  pub few : passed ≤ 7
  pub begins : next ≡ edge +ℤ pos (suc passed * c)
  pub behind : lifted edge + passed * c ≤ lifted x

-- whether the next strip begins past x, as the code tests it
abbrev past : ℤ → ℤ → Bool
past next x = lt_z (to_z w64 (of_z w64 (to_z w32 (of_z w32 x)))) next

turned : (a b : ℤ) → le_z b a ≡ not (lt_z a b)
turned (pos a) (pos b) = cases (ltb a b) (λ e. rw (e, lt-leb b a (ltb-true a b e))) (λ e. rw (e, le-leb b a (ltb-false a b e)))
turned (pos a) (negsuc b) = refl
turned (negsuc a) (pos b) = refl
turned (negsuc a) (negsuc b) = cases (ltb b a) (λ e. rw (e, lt-leb a b (ltb-true b a e))) (λ e. rw (e, le-leb a b (ltb-false b a e)))

-- a coordinate of the grid, and the numbers that it is found by
pub record Axis (edge : ℤ) (c : ℕ) (x : ℤ) : Type 0 where
  pub edge_fits : SFits w32 edge
  pub cell_fits : Fits w32 c
  pub x_fits : SFits w32 x
  pub inside : within edge c x ≡ true

module _ (edge : ℤ) (c : ℕ) (x : ℤ) (a : Axis edge c x) where
  pub side_is : to_z w64 c ≡ pos c
  side_is = to_z_pos w64 {n = c} (omega (arith, a.cell_fits.fits))

  begin_fits : (n : ℕ) → n ≤ 8 → SFits w64 (edge +ℤ pos (n * c))
  begin_fits n h = reach_fits edge (n * c) a.edge_fits (omega (arith, mul-le-mul_right c h, a.cell_fits.fits))

  -- a strip further on
  further : (n : ℕ) → (edge +ℤ pos (n * c)) +ℤ pos c ≡ edge +ℤ pos (suc n * c)
  further n = +ℤ_assoc edge (pos (n * c)) (pos c) ∙ ap (λ (k : ℕ). edge +ℤ pos k) (omega (arith, suc-mul n c))

  pub first_fits : SFits w64 (edge +ℤ pos c)
  first_fits = let one : 1 * c ≡ c = omega arith in rw one at (begin_fits 1 (omega arith))

  pub first : Stepping edge c x (edge +ℤ pos c) 0
  first = record { few = omega arith; begins = ap (λ (k : ℕ). edge +ℤ pos k) (omega arith); behind = omega (arith, from_edge edge c x a.inside) }

  module _ (next : ℤ) (passed : ℕ) (s : Stepping edge c x next passed) where
    reached : {t : Bool} → past next x ≡ t → leb (lifted edge + suc passed * c) (lifted x) ≡ not t
    reached e = sym (reach_order edge (suc passed * c) x a.edge_fits a.x_fits) ∙ turned x _ ∙ ap not (rw (s.begins, wide x a.x_fits) at e)

    pub next_fits : passed < 7 → SFits w64 (next +ℤ to_z w64 c)
    next_fits h = rw (s.begins, side_is, further (suc passed)) (begin_fits (suc (suc passed)) (omega arith))

    pub stepped : passed < 7 → past next x ≡ false → Stepping edge c x (to_z w64 (of_z w64 (next +ℤ to_z w64 c))) (passed + 1)
    stepped h e =
        record {
          few = omega arith;
          begins = to_z-of_z (next_fits h) ∙ rw (s.begins, side_is) (further (suc passed) ∙ ap (λ (k : ℕ). edge +ℤ pos (k * c)) (omega arith));
          behind = omega (arith, leb-true (lifted edge + suc passed * c) (lifted x) (reached e), ap (λ (k : ℕ). k * c) more);
        }
      where
        more : passed + 1 ≡ suc passed
        more = omega arith

    found : lifted x < lifted edge + suc passed * c → passed ≡ strip edge c x
    found h = sym (between (lifted x - lifted edge) c passed (omega (arith, s.behind)) (omega (arith, s.behind)))

    -- no strip is left behind the eighth
    pub found_last : 7 ≤ passed → passed ≡ strip edge c x
    found_last h = found (omega (arith, before_end edge c x a.inside, mul-le-mul_right c h, suc-mul passed c))

    pub found_here : past next x ≡ true → passed ≡ strip edge c x
    found_here e = found (leb-false _ _ (reached e))
