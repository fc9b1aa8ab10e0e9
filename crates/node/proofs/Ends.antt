-- Where a node's stands end, and how many nodes a run of stands makes: the two loops, and the bounds of what they give.
-- Assumes nothing.
use mathlib.Core.Path.{◌≡◌, ap, ◌∙◌}
use mathlib.Core.Logic.{⊎_elim}
use mathlib.Core.List.{List, [], ◌∷◌, ◌++◌}
use Prim.Native.Nat.{ℕ, suc, ◌+◌, ◌-◌, ◌≤◌, ◌<◌}
use native.Mathlib.Omega.{arith}
use native.Mathlib.Numerals.{add-one}
use lib.ListN.{length, drop, drop_of_length-le, get_or-eq_default}
use lib.Seq.{drop-cons}
use borrow.Author.Tests.{lt-ltb, le-ltb}
use Rattle.base.specs.Lists.{from_on, up_to, each, total}
use Rattle.base.proofs.Tests.{le_or_lt}
use Rattle.base.proofs.Members.{each_append}
use Rattle.base.proofs.Runs.{from_split, length_from}
use Rattle.base.proofs.Sums.{total-append, total_most}
use Rattle.node.specs.Columns.{at, Grows, front_run, end_of, Ends, span, growth, grown_of}

-- ---- runs of stands

pub span_none : (i : ℕ) → span i i ≡ []
span_none i = let e : i - i ≡ 0 = omega arith in ap (from_on i) e

pub span_last : (i k : ℕ) → i ≤ k → span i (k + 1) ≡ span i k ++ (k ∷ [])
span_last i k h =
    let e : k + 1 - i ≡ (k - i) + 1 = omega arith in
    let f : i + (k - i) ≡ k = omega arith in
    ap (from_on i) e ∙ from_split i (k - i) 1 ∙ ap (λ (x : ℕ). span i k ++ (x ∷ [])) f

pub up_to-part : (i e : ℕ) → i ≤ e → up_to e ≡ up_to i ++ span i e
up_to-part i e h =
    let q : e ≡ i + (e - i) = omega arith in
    let z : 0 + i ≡ i = omega arith in
    ap up_to q ∙ from_split 0 i (e - i) ∙ ap (λ (k : ℕ). up_to i ++ from_on k (e - i)) z

-- ---- the end of a block

pub record Ending (shared : List ℕ) (i l e : ℕ) : Type 0 where
  pub after : i < e
  pub within : e ≤ length shared
  pub rest : end_of shared i l ≡ e + front_run l (drop e shared)

module _ (shared : List ℕ) (i l : ℕ) where
  pub ending : i < length shared → Ending shared i l (i + 1)
  unfolding end_of
  ending h = record { after = omega arith; within = omega arith; rest = rw (drop-cons shared i 0 h, add-one) (omega arith) }

  pub end_none : length shared ≤ i → end_of shared i l ≡ i
  unfolding end_of
  end_none h = rw (drop_of_length-le shared h) (omega arith)

  pub ending_more : (e : ℕ) → Ending shared i l e → e < length shared → l ≤ at shared e → Ending shared i l (e + 1)
  ending_more e s h k =
      let q : front_run l (drop e shared) ≡ suc (front_run l (drop (suc e) shared)) = rw (drop-cons shared e 0 h, le-ltb (at shared e) l k) in
      record { after = omega (arith, s.after); within = omega arith; rest = s.rest ∙ rw (q, add-one) (omega arith) }

  pub ending_here : (e : ℕ) → Ending shared i l e → e < length shared → at shared e < l → Ends shared i l e
  ending_here e s h k =
      let q : front_run l (drop e shared) ≡ 0 = rw (drop-cons shared e 0 h, lt-ltb (at shared e) l k) in
      record { end = omega (arith, s.rest); after = omega (arith, s.after); within = s.within }

  pub ending_last : (e : ℕ) → Ending shared i l e → length shared ≤ e → Ends shared i l e
  ending_last e s h =
      let q : front_run l (drop e shared) ≡ 0 = rw (drop_of_length-le shared h) in
      record { end = omega (arith, s.rest); after = omega (arith, s.after); within = s.within }

  pub ended : length shared ≤ i → i ≤ length shared → Ends shared i l i
  ended h k = record { end = omega (arith, end_none h); after = omega arith; within = k }

  pub end_from : i ≤ end_of shared i l
  unfolding end_of
  end_from = omega arith

  -- a node has a stand
  pub end_after : i < length shared → i < end_of shared i l
  unfolding end_of
  end_after h = rw (drop-cons shared i 0 h) (omega arith)

-- ---- growth

pub length-short : (lengths shared : List ℕ) → Grows lengths shared → (k : ℕ) → at lengths k ≤ 24
length-short lengths shared g k =
    ⊎_elim
    (λ (h : length lengths ≤ k). let z : at lengths k ≡ 0 = get_or-eq_default lengths 0 h in omega arith)
    (λ (h : k < length lengths). g.short k h)
    (le_or_lt (length lengths) k)

pub shared_short : (lengths shared : List ℕ) → Grows lengths shared → (k : ℕ) → at shared k ≤ 24
shared_short lengths shared g k =
    ⊎_elim
    (λ (h : length lengths ≤ k). let z : at shared k ≡ 0 = get_or-eq_default shared 0 (omega (arith, g.same)) in omega arith)
    (λ (h : k < length lengths). omega (arith, g.part k h, g.short k h))
    (le_or_lt (length lengths) k)

module _ (lengths shared : List ℕ) where
  pub grown_last : (i k : ℕ) → i ≤ k → grown_of lengths shared i (k + 1) ≡ grown_of lengths shared i k + growth lengths shared k
  unfolding grown_of
  grown_last i k h =
      let g = growth lengths shared in
      ap (λ (l : List ℕ). total (each g l)) (span_last i k h)
      ∙ ap total (each_append g (span i k) (k ∷ []))
      ∙ total-append (each g (span i k)) (g k ∷ [])
      ∙ omega arith

  pub grown_small : Grows lengths shared → (i e : ℕ) → e ≤ length lengths → grown_of lengths shared i e ≤ 24576
  unfolding grown_of
  grown_small g i e h =
      omega (arith, total_most (growth lengths shared) 24 (span i e) (λ k h. omega (arith, length-short lengths shared g k)), length_from i (e - i), g.few)

  -- none from the end on, and before it those of one stand and of the stands behind
  pub grown_none : (i e : ℕ) → e ≤ i → grown_of lengths shared i e ≡ 0
  unfolding grown_of
  grown_none i e h = let z : e - i ≡ 0 = omega arith in rw z

  pub grown_first : (i e : ℕ) → i < e → grown_of lengths shared i e ≡ growth lengths shared i + grown_of lengths shared (suc i) e
  unfolding grown_of
  grown_first i e h = let more : e - i ≡ suc (e - suc i) = omega arith in rw more

-- what is summed, and what is left to sum
pub record Growing (lengths shared : List ℕ) (i e sum k : ℕ) : Type 0 where
  pub left : sum + grown_of lengths shared k e ≡ grown_of lengths shared i e

module _ (lengths shared : List ℕ) (i e : ℕ) where
  pub growing_more : (sum k w : ℕ) → Growing lengths shared i e sum k → k < e → w ≡ growth lengths shared k → Growing lengths shared i e (sum + w) (k + 1)
  growing_more sum k w s h q = record { left = rw (add-one k) (omega (arith, s.left, grown_first lengths shared k e h)) }

  -- one stand's nodes more fit
  pub growing_fits : (sum k w : ℕ) → Grows lengths shared → e ≤ length lengths → Growing lengths shared i e sum k → k < e → w ≡ growth lengths shared k → sum + w ≤ 24576
  growing_fits sum k w g u s h q = omega (arith, (growing_more sum k w s h q).left, grown_small lengths shared g i e u)

  pub growing_end : (sum k : ℕ) → Growing lengths shared i e sum k → e ≤ k → sum ≡ grown_of lengths shared i e
  growing_end sum k s h = omega (arith, s.left, grown_none lengths shared k e h)
