-- Each leg of a way in the grid is below the grid's side, and no place of a cell is nearer than the cell's nearest metre.
-- Across and along apart. Assumes nothing.
use Rattle.std.proofs.Common.{◌≡◌, ℕ, ◌+◌, ◌-◌, ◌*◌, ◌<◌, ◌≤◌, true, ℤ, ⊎_elim, add-le-add, mul-le-mul_right, div-mul-le_self, arith, le-ltb, lt-ltb, le-leb}
use native.Mathlib.Nat.{lt-div-mul-add}
use borrow.Author.Tests.{lt-leb}
use Rattle.base.proofs.Tests.{le_or_lt}
use Rattle.rules.specs.declared.Grid.{Grid}
use Rattle.rules.specs.declared.Place.{Place}
use Rattle.rules.specs.Places.{lifted, within, in_grid, strip, region_of}
use Rattle.rules.specs.Worth.{apart, distance², distance, nearest, nearest_in, region_distance², region_distance}
use Rattle.rules.proofs.Places.{from_edge, before_end, east_inside, north_inside, column_back, row_back}
use Rattle.rules.proofs.Roots.{square_most, root_order}

-- two coordinates of the grid
pub legs_less : (o : ℤ) (c : ℕ) (x y : ℤ) → within o c x ≡ true → within o c y ≡ true → apart (lifted x) (lifted y) < 8 * c
legs_less o c x y hx hy =
    omega (arith, from_edge o c x hx, before_end o c x hx, from_edge o c y hy, before_end o c y hy)

-- the nearest metre, by where x lies
module _ (low c x : ℕ) where
  pub nearest_first : x < low → nearest low c x ≡ low
  unfolding nearest
  nearest_first h = rw (lt-ltb x low h)

  pub nearest_last : low ≤ x → low + c ≤ x → nearest low c x ≡ low + c - 1
  unfolding nearest
  nearest_last h k = rw (le-ltb x low h, le-leb (low + c) x k)

  pub nearest_here : low ≤ x → x < low + c → nearest low c x ≡ x
  unfolding nearest
  nearest_here h k = rw (le-ltb x low h, lt-leb (low + c) x k)

  -- what holds in the three cases holds of the nearest metre
  nearest_cases : (P : ℕ → Type 0) → (x < low → P low) → (low + c ≤ x → P (low + c - 1)) → (low ≤ x → x < low + c → P x) → P (nearest low c x)
  nearest_cases P first last here =
      ⊎_elim
      (λ (h : low ≤ x). ⊎_elim (λ (k : low + c ≤ x). rw (nearest_last h k) (last k)) (λ (k : x < low + c). rw (nearest_here h k) (here h k)) (le_or_lt (low + c) x))
      (λ (h : x < low). rw (nearest_first h) (first h))
      (le_or_lt low x)

-- it is one of the strip, and none of the strip is nearer
module _ (low c x : ℕ) (some : 0 < c) where
  nearest_in_lem : (low ≤ nearest low c x) × (nearest low c x < low + c)
  nearest_in_lem =
      nearest_cases low c x (λ n. (low ≤ n) × (n < low + c)) (λ h. omega arith) (λ h. omega arith) (λ h k. omega arith)

  nearest_least : (y : ℕ) → low ≤ y → y < low + c → apart (nearest low c x) x ≤ apart y x
  nearest_least y l u =
      nearest_cases low c x (λ n. apart n x ≤ apart y x) (λ h. omega arith) (λ h. omega arith) (λ h k. omega arith)

-- from a coordinate of the grid to the nearest metre of column or row k
pub gap_less : (o : ℤ) (c k : ℕ) (x : ℤ) → 0 < c → k < 8 → within o c x ≡ true → apart (nearest_in o c k x) (lifted x) < 8 * c
gap_less o c k x some h inside =
    let strips = mul-le-mul_right c h in
    let there = nearest_in_lem (lifted o + k * c) c (lifted x) some in
    omega (arith, from_edge o c x inside, before_end o c x inside)

-- a coordinate y of the grid is no nearer to x than the nearest metre of its own column or row
gap_least : (o : ℤ) (c : ℕ) (x y : ℤ) → 0 < c → within o c y ≡ true → apart (nearest_in o c (strip o c y) x) (lifted x) ≤ apart (lifted y) (lifted x)
gap_least o c x y some inside =
    let into = lifted y - lifted o in
    nearest_least (lifted o + strip o c y * c) c (lifted x) some (lifted y)
    (omega (arith, from_edge o c y inside, div-mul-le_self into c))
    (omega (arith, from_edge o c y inside, lt-div-mul-add {a = into} {b = c} some))

-- no place of a region's cell is nearer than the nearest metre of that cell
pub cell_least : (g : Grid) (q p : Place) → 0 < g.cell → in_grid g q ≡ true → region_distance g (region_of g q) p ≤ distance q p
unfolding region_distance² region_distance distance² distance
cell_least g q p some inside =
    rw (column_back g q some inside, row_back g q some inside)
    (root_order _ _
    (add-le-add
    (square_most _ _ (gap_least g.west g.cell p.east q.east some (east_inside g q inside)))
    (square_most _ _ (gap_least g.south g.cell p.north q.north some (north_inside g q inside)))))
