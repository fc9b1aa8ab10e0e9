-- The byte order of names: a total order, in which the names that begin alike stand together.
-- Assumes nothing.
use mathlib.Core.Path.{◌≡◌, refl, sym, ap}
use mathlib.Core.Logic.{⊎_elim}
use mathlib.Core.Bool.{true, false, ◌&&◌, true≢false, false≢true}
use mathlib.Core.List.{List, [], ◌∷◌, ◌++◌}
use Prim.Native.Nat.{ℕ, zero, suc, ◌+◌, ◌-◌, ◌≤◌, ◌<◌}
use native.Mathlib.Omega.{arith}
use native.Mathlib.Nat.{add-zero, eq-or-lt_of_le}
use lib.Dec.{eqb, ltb}
use lib.ListN.{length, get_or}
use borrow.Table.Steps.{cases}
use borrow.Author.Tests.{ltb-true, eqb-true, lt-ltb, le-ltb, eq-eqb}
use Rattle.base.specs.Lists.{begins, shared_length}
use Rattle.base.proofs.Tests.{never, refuted, le_or_lt, and_parts, or_cases}
use Rattle.base.proofs.Begins.{begins_cases, begins_same}
use Rattle.rules.specs.Names.{in_order}

-- two names in order, by their first bytes; and back, as `order_by`
order_first : (a b : ℕ) (m n : List ℕ) → in_order (a ∷ m) (b ∷ n) ≡ true → (a ≤ b) × (a ≡ b → in_order m n ≡ true)
order_first a b m n e =
    ⊎_elim
    (λ h. let l = ltb-true a b h in (omega arith, λ q. absurd (omega arith)))
    (λ h. let t = and_parts (eqb a b) (in_order m n) h in let q = eqb-true a b t.0 in (omega arith, λ q. t.1))
    (or_cases (ltb a b) (eqb a b && in_order m n) e)

order_less : (a b : ℕ) (m n : List ℕ) → a < b → in_order (a ∷ m) (b ∷ n) ≡ true
order_less a b m n h = rw (lt-ltb a b h)

order_same : (a b : ℕ) (m n : List ℕ) → a ≡ b → in_order m n ≡ true → in_order (a ∷ m) (b ∷ n) ≡ true
order_same a b m n p h = rw (le-ltb a b (omega arith), eq-eqb a b p, h)

pub order_by : (a b : ℕ) (m n : List ℕ) → a ≤ b → (a ≡ b → in_order m n ≡ true) → in_order (a ∷ m) (b ∷ n) ≡ true
order_by a b m n h k = ⊎_elim (λ e. order_same a b m n e (k e)) (order_less a b m n) (eq-or-lt_of_le h)

pub order_refl : (m : List ℕ) → in_order m m ≡ true
order_refl [] = refl
order_refl (a ∷ m) = order_same a a m m refl (order_refl m)

pub order_trans : (x y z : List ℕ) → in_order x y ≡ true → in_order y z ≡ true → in_order x z ≡ true
order_trans [] y z p q = refl
order_trans (a ∷ x) [] z p q = absurd (false≢true p)
order_trans (a ∷ x) (b ∷ y) [] p q = absurd (false≢true q)
order_trans (a ∷ x) (b ∷ y) (c ∷ z) p q =
    let s = order_first a b x y p in
    let t = order_first b c y z q in
    order_by a c x z (omega arith) (λ e. order_trans x y z (s.1 (omega arith)) (t.1 (omega arith)))

pub order_antisym : (x y : List ℕ) → in_order x y ≡ true → in_order y x ≡ true → x ≡ y
order_antisym [] [] p q = refl
order_antisym [] (b ∷ y) p q = absurd (false≢true q)
order_antisym (a ∷ x) [] p q = absurd (false≢true p)
order_antisym (a ∷ x) (b ∷ y) p q =
    let s = order_first a b x y p in
    let t = order_first b a y x q in
    let e : a ≡ b = omega arith in
    cc (e, order_antisym x y (s.1 e) (t.1 (sym e)))

-- not in order: strictly in order the other way. `in_order y x ≡ false` is the strict order "x before y" from here on
pub order_total : (x y : List ℕ) → in_order y x ≡ false → in_order x y ≡ true
order_total [] y p = refl
order_total (a ∷ x) [] p = absurd (true≢false p)
order_total (a ∷ x) (b ∷ y) p =
    ⊎_elim
    (λ (h : a ≤ b). order_by a b x y h (λ e. order_total x y (rw (le-ltb b a h, eq-eqb b a (sym e)) at p)))
    (λ h. never _ (order_less b a y x h) p)
    (le_or_lt a b)

pub begins_order : (p n : List ℕ) → begins p n ≡ true → in_order p n ≡ true
begins_order [] n h = refl
begins_order (a ∷ p) [] h = h
begins_order (a ∷ p) (b ∷ n) h = let s = begins_cases a b p n h in order_same a b p n s.0 (begins_order p n s.1)

-- the interval law: it needs no more than p before x, p begins n, x before n
pub begins_between : (p x n : List ℕ) → in_order p x ≡ true → in_order x n ≡ true → begins p n ≡ true → begins p x ≡ true
begins_between [] x n h k l = refl
begins_between (a ∷ p) [] n h k l = h
begins_between (a ∷ p) (b ∷ x) [] h k l = absurd (false≢true k)
begins_between (a ∷ p) (b ∷ x) (c ∷ n) h k l =
    let r = begins_cases a c p n l in
    let s = order_first a b p x h in
    let t = order_first b c x n k in
    let e : a ≡ b = omega arith in
    begins_same a b p x e (begins_between p x n (s.1 e) (t.1 (omega arith)) r.1)

pub begins_interval : (p m x n : List ℕ) → begins p m ≡ true → in_order m x ≡ true → in_order x n ≡ true → begins p n ≡ true → begins p x ≡ true
begins_interval p m x n h u v k = begins_between p x n (order_trans p m x (begins_order p m h) u) v k

-- a beginning of n that does not begin the name before comes strictly after that name
pub begins-above : (m n p : List ℕ) → in_order m n ≡ true → begins p n ≡ true → begins p m ≡ false → in_order p m ≡ false
begins-above m n p o h k = refuted _ (λ s. never _ (begins_between p m n s o h) k)

-- a longer one that p begins comes strictly after p
pub begins_strict : (p q : List ℕ) → begins p q ≡ true → length p < length q → in_order q p ≡ false
begins_strict p [] h l = absurd (omega arith)
begins_strict [] (b ∷ q) h l = refl
begins_strict (a ∷ p) (b ∷ q) h l =
    let t = begins_cases a b p q h in
    rw (le-ltb b a (omega arith), eq-eqb b a (sym t.0), begins_strict p q t.1 (omega arith))

-- x not after m, m strictly before y: x strictly before y
pub strict_after : (x m y : List ℕ) → in_order x m ≡ true → in_order y m ≡ false → in_order y x ≡ false
strict_after x m y h k = refuted _ (λ u. never _ (order_trans y x m u h) k)

pub order_append : (p u v : List ℕ) → in_order (p ++ u) (p ++ v) ≡ in_order u v
order_append [] u v = refl
order_append (a ∷ p) u v = rw (le-ltb a a (omega arith), eq-eqb a a refl) (order_append p u v)

-- ---- by the length that two names share

pub order_whole : (a b : List ℕ) → shared_length a b ≡ length a → in_order a b ≡ true
order_whole [] b e = refl
order_whole (x ∷ a) [] e = absurd (omega arith)
order_whole (x ∷ a) (y ∷ b) e =
    cases (eqb x y)
    (λ q. order_same x y a b (eqb-true x y q) (order_whole a b (omega (arith, rw q at e))))
    (λ q. absurd (omega (arith, rw q at e)))

pub order_longer : (a b : List ℕ) → (shared_length a b ≡ length a → ⊥) → shared_length a b ≡ length b → in_order a b ≡ false
order_longer [] b n e = absurd (n refl)
order_longer (x ∷ a) [] n e = refl
order_longer (x ∷ a) (y ∷ b) n e =
    cases (eqb x y)
    (λ q. rw (q, order_longer a b (λ z. n (rw q (ap suc z))) (omega (arith, rw q at e)), le-ltb x y (omega (arith, eqb-true x y q))))
    (λ q. absurd (omega (arith, rw q at e)))

pub order_byte : (a b : List ℕ) → (shared_length a b ≡ length a → ⊥) → (shared_length a b ≡ length b → ⊥)
    → in_order a b ≡ ltb (get_or a (shared_length a b) 0) (get_or b (shared_length a b) 0)
order_byte [] b n m = absurd (n refl)
order_byte (x ∷ a) [] n m = absurd (m refl)
order_byte (x ∷ a) (y ∷ b) n m =
    cases (eqb x y)
    (λ q. rw (q, order_byte a b (λ z. n (rw q (ap suc z))) (λ z. m (rw q (ap suc z))), le-ltb x y (omega (arith, eqb-true x y q))))
    (λ q. rw q (cases (ltb x y) (λ l. rw l) (λ l. rw l)))

-- ---- names by number

abbrev pub Rising : (ℕ → List ℕ) → ℕ → Type 0
Rising g n = (i k : ℕ) → i ≤ k → k < n → in_order (g i) (g k) ≡ true

abbrev pub StrictlyRising : (ℕ → List ℕ) → ℕ → Type 0
StrictlyRising g n = (i k : ℕ) → i < k → k < n → in_order (g k) (g i) ≡ false

-- neighbours in order: all in order
pub rising : (g : ℕ → List ℕ) (n : ℕ) → ((i : ℕ) → i + 1 < n → in_order (g i) (g (i + 1)) ≡ true) → Rising g n
rising g n h i k le lt = let e : i + (k - i) ≡ k = omega arith in rw e at (far (k - i) (omega arith))
  where
    far : (d : ℕ) → i + d < n → in_order (g i) (g (i + d)) ≡ true
    far zero u = rw add-zero (order_refl (g i))
    far (suc d) u =
        let e : i + d + 1 ≡ i + suc d = omega arith in
        order_trans (g i) (g (i + d)) (g (i + suc d)) (far d (omega arith)) (rw e at (h (i + d) (omega arith)))

pub strict_rising : (g : ℕ → List ℕ) (n : ℕ) → StrictlyRising g n → Rising g n
strict_rising g n up i k le lt =
    ⊎_elim (λ (e : i ≡ k). rw e (order_refl (g k))) (λ (h : i < k). order_total (g i) (g k) (up i k h lt)) (eq-or-lt_of_le le)
