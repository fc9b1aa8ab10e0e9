-- How many bit records there are: fewer than two for each stand. A node that keeps bits has fewer stands than its parent, so two
-- neighbours are there, both its parent's, and one of them its own; of two neighbours there are at most two such nodes. Assumes nothing.
use mathlib.Core.Path.{◌≡◌, refl, sym, ap, ◌∙◌}
use mathlib.Core.Logic.{◌⊎◌, inl, inr, ⊎_elim}
use mathlib.Core.Bool.{Bool, true, false, not}
use mathlib.Core.List.{List, [], ◌∷◌}
use Prim.Native.Nat.{ℕ, suc, ◌-◌, ◌*◌, ◌≤◌, ◌<◌}
use native.Mathlib.Omega.{arith}
use native.Mathlib.Nat.{lt_of_not-le}
use lib.ListN.{length, take}
use borrow.Author.Tests.{not-true}
use Rattle.base.specs.Lists.{up_to, keep, each_list, is_empty, begins, shared_length, In}
use Rattle.base.proofs.Tests.{never, Unlike, le_or_lt}
use Rattle.base.proofs.Members.{keep-in, keep_unlike, length-keep, each_list-in}
use Rattle.base.proofs.Runs.{in_from, from_in, length_from, turn}
use Rattle.base.proofs.Begins.{begins_is_take, begins-trans, begins-length, begins-part, take_begins, same_refl, shared_length-sym, shared_begins, past_shared}
use Rattle.base.proofs.Pairs.{Distinct, pairs_keep, pairs_weaken, distinct_few}
use Rattle.base.proofs.Rows.{length_rows}
use Rattle.rules.specs.declared.Grid.{Grid}
use Rattle.rules.specs.Places.{regions}
use Rattle.rules.specs.Names.{in_order}
use Rattle.rules.specs.Tables.{Table, stands, name_of, Ordered, LawfulTable}
use Rattle.rules.specs.Questions.{under, in_region}
use Rattle.rules.specs.Indexes.{new_at, beginnings, node_count, but_last, regions_under, repeats, keepers, record_count}
use Rattle.rules.proofs.Orders.{order_refl, begins_interval, rising}
use Rattle.meaning.proofs.Tables.{beginnings-tree, beginnings_from}

-- a text that begins the first of two names and not the second, where its parent begins both, has one byte more than the two share
parting : (p m n : List ℕ) → 1 ≤ length p → begins p m ≡ true → begins p n ≡ false → begins (but_last p) n ≡ true → p ≡ take (suc (shared_length n m)) m
parting p m n h b c k =
    let whole = begins_is_take p m b in
    let short : shared_length n m < length p = lt_of_not-le (λ u. never _ (rw (← whole) at (shared_begins n m (length p) u)) c) in
    let long : length p - 1 < suc (shared_length n m) =
    lt_of_not-le (λ u. never _ k (rw (begins-part p m (length p - 1) b (omega arith)) at (past_shared n m (length p - 1) u (omega (arith, begins-length p m b))))) in
    let size : length p ≡ suc (shared_length n m) = omega arith in
    whole ∙ ap (λ (l : ℕ). take l m) size

module _ (t : Table) where
  -- the beginnings one byte longer than what stand x and the next share
  abbrev branches : ℕ → List (List ℕ)
  branches x =
      let past : ℕ = suc (shared_length (name_of t x) (name_of t (suc x))) in
      take past (name_of t x) ∷ take past (name_of t (suc x)) ∷ []

  -- the root, and the branches of each two neighbours
  abbrev choices : List (List ℕ)
  choices = [] ∷ each_list branches (up_to (stands t - 1))

  -- fewer than two for each stand
  choices_count : length choices ≡ suc ((stands t - 1) * 2)
  choices_count = ap suc (length_rows branches 2 (λ x. refl) (up_to (stands t - 1)) ∙ ap (λ n. n * 2) (length_from 0 (stands t - 1)))

  module _ (o : Ordered t) (p : List ℕ) (long : 1 ≤ length p) where
    -- whether stand i is under p, and whether it is under p's parent
    abbrev own : ℕ → Bool
    own i = begins p (name_of t i)

    abbrev wide : ℕ → Bool
    wide i = begins (but_last p) (name_of t i)

    -- a stand under p is under its parent
    own_wide : (i : ℕ) → own i ≡ true → wide i ≡ true
    own_wide i = begins-trans (but_last p) p (name_of t i) (take_begins (length p - 1) p)

    -- where of two stands under the parent only one is under p, so it is of two neighbours between them, and p is a branch of those
    between : (a b : ℕ) → a ≤ b → b < stands t → wide a ≡ true → wide b ≡ true → (own a ≡ own b → ⊥) → In p choices
    between a b u v c d n =
        let s = turn own a b u n in
        let x = s.0 in
        let up = rising (name_of t) (stands t) o in
        let both : (i : ℕ) → a ≤ i → i ≤ b → wide i ≡ true =
        λ i y z. begins_interval (but_last p) (name_of t a) (name_of t i) (name_of t b) c (up a i y (omega arith)) (up i b z v) d in
        let branch : In p (branches x) → In p choices = λ k. inr (each_list-in branches (up_to (stands t - 1)) x p (from_in 0 (stands t - 1) x (omega arith) (omega arith)) k) in
        ⊎_elim
        (λ e. branch (inl (rw shared_length-sym (parting p (name_of t x) (name_of t (suc x)) long e.0 e.1 (both (suc x) (omega arith) (omega arith))))))
        (λ e. branch (inr (inl (parting p (name_of t (suc x)) (name_of t x) long e.1 e.0 (both x (omega arith) (omega arith))))))
        s.3

    -- the same, the two in either order
    apart : (i k : ℕ) → i < stands t → k < stands t → own i ≡ true → wide k ≡ true → own k ≡ false → In p choices
    apart i k u v b c d =
        ⊎_elim
        (λ (h : i ≤ k). between i k h v (own_wide i b) c (λ e. never _ b (e ∙ d)))
        (λ (h : k < i). between k i (omega arith) u c (own_wide i b) (λ e. never _ b (sym e ∙ d)))
        (le_or_lt i k)

    -- so a text with a stand has its parent's stands, or is one of the choices
    fewer : (i : ℕ) → i < stands t → own i ≡ true → (under t (but_last p) ≡ under t p) ⊎ In p choices
    unfolding under
    fewer i u b =
        ⊎_elim
        inl
        (λ (s : (k : ℕ) × In k (up_to (stands t)) × Unlike (wide k) (own k)).
        let r = in_from 0 (stands t) s.0 s.1 in
        ⊎_elim (λ e. inr (apart i s.0 u (omega arith) b e.0 e.1)) (λ e. never _ (own_wide s.0 e.1) e.0) s.2)
        (keep_unlike wide own (up_to (stands t)))

  module _ (g : Grid) where
    -- a node with its parent's stands has its parent's regions
    repeat : (b : ℕ) (p : List ℕ) → under t (but_last (b ∷ p)) ≡ under t (b ∷ p) → repeats t g (b ∷ p) ≡ true
    unfolding repeats
    repeat b p e =
        let same : regions_under t g (but_last (b ∷ p)) ≡ regions_under t g (b ∷ p) = ap (λ (s : List ℕ). keep (λ r. not (is_empty (keep (in_region g t r) s))) (up_to regions)) e in
        rw same (same_refl (regions_under t g (b ∷ p)))

    -- a node that keeps bits is one of the choices
    chosen : Ordered t → (p : List ℕ) → In p (keepers t g) → In p choices
    chosen o [] h = inl refl
    chosen o (b ∷ p) h =
        let s = keep-in (λ p. not (repeats t g p)) (beginnings t) (b ∷ p) h in
        ⊎_elim
        inl
        (λ i. ⊎_elim (λ e. never _ (repeat b p e) (not-true _ s.1)) (λ k. k) (fewer o (b ∷ p) (omega arith) i.0 i.1 i.2))
        (beginnings_from t (b ∷ p) s.0)

    -- no more bit records than nodes
    pub records_few : record_count t g ≤ node_count t
    records_few = length-keep (λ p. not (repeats t g p)) (beginnings t)

    -- and without stands the root's alone
    pub records_lone : stands t ≡ 0 → record_count t g ≡ 1
    unfolding beginnings repeats
    records_lone e = ap (λ (n : ℕ). length (keep (λ p. not (repeats t g p)) ([] ∷ each_list (new_at t) (up_to n)))) e

    -- fewer than two for each stand: they are distinct, and all among the choices
    pub records_bound : LawfulTable t g → 0 < stands t → record_count t g < 2 * stands t
    records_bound l h =
        let strict = pairs_keep (λ x y. in_order y x ≡ false) (λ p. not (repeats t g p)) (beginnings t) (beginnings-tree t l.ordered).sorted in
        let distinct : Distinct (λ x. x) (keepers t g) = pairs_weaken _ (λ x y. x ≡ y → ⊥) (keepers t g) (λ x y u v h e. never _ (order_refl y) (rw e at h)) strict in
        omega (arith, distinct_few (keepers t g) choices distinct (chosen l.ordered), choices_count)
