-- The two walks of `fill`: the first counts and keeps what a small room holds; what it kept is put into the caller's room,
-- or where that is not all of it a second walk writes. Assumes nothing.
use mathlib.Core.Path.{◌≡◌, sym, ap, ap₂, ◌∙◌}
use mathlib.Core.Bool.{true}
use mathlib.Core.List.{List, ◌++◌}
use Prim.Native.Nat.{ℕ, ◌≤◌, ◌<◌}
use native.Mathlib.Omega.{arith}
use lib.IntN.{ℤ}
use lib.ListN.{length, take, drop}
use lib.Seq.{take_at}
use borrow.Author.Tests.{lt-leb, le-leb}
use Rattle.std.specs.Prelude.{Result, Ok, Err}
use Rattle.base.specs.Lists.{written}
use Rattle.base.proofs.Tests.{never}
use Rattle.rules.specs.declared.Broken.{Broken}
use Rattle.rules.specs.declared.Rect.{Rect}
use Rattle.rules.specs.declared.RangeRefusal.{RangeRefusal}
use Rattle.rules.specs.declared.Refusal.TheVariants.{NotLawful, RoomTooSmall}
use Rattle.rules.specs.Numbers.{range_refused}
use Rattle.rules.specs.Outcomes.{range_came}
use Rattle.runs.specs.Sights.{known}
use Rattle.range.specs.Fetches.{Gathered, tallied, gathered, looked}
use Rattle.range.proofs.Gathers.{hits, sets_written, walk_size, walk_whole, walk_counts, walk_breaks_off}

module _ (east north : List ℤ) (rect : Rect) (seen room near₀ near : List ℕ) (t : Result ℕ Broken) (counted : tallied t near ≡ gathered east north rect near₀ 0 seen) where
  tally : (gathered east north rect near₀ 0 seen).tally ≡ t
  tally = ap (λ (g : Gathered). g.tally) (sym counted)

  pub fill_breaks : (a : RangeRefusal) → a ≡ range_refused NotLawful → (b : Broken) → t ≡ Err b → range_came (Err a) room ≡ looked east north rect seen room
  unfolding looked
  fill_breaks a u b e = rw (u, walk_breaks_off east north rect seen near₀ 0 b (tally ∙ e))

  module _ (m : ℕ) (e : t ≡ Ok m) where
    abbrev all : List ℕ
    all = hits east north rect seen

    whole : (known east seen ≡ true) × (m ≡ length all)
    whole = let w = walk_counts east north rect seen near₀ 0 m (tally ∙ e) in (w.0, omega (arith, w.1))

    pub fill_over : length room < m → range_came (Err (record { why = RoomTooSmall; matches = m })) room ≡ looked east north rect seen room
    unfolding looked
    fill_over h = rw (whole.0, lt-leb (length all) (length room) (omega (arith, whole.1)), whole.1)

    module _ (h : m ≤ length room) where
      written_all : range_came (Ok m) (written all room) ≡ looked east north rect seen room
      unfolding looked
      written_all = rw (whole.0, le-leb (length all) (length room) (omega (arith, whole.1)), whole.1)

      pub fill_writes : (r : Result ℕ Broken) (after : List ℕ) → tallied r after ≡ gathered east north rect room 0 seen → range_came (Ok m) after ≡ looked east north rect seen room
      fill_writes r after w =
          let put : after ≡ written all room =
          ap (λ (g : Gathered). g.room) (w ∙ walk_whole east north rect seen room 0 whole.0) ∙ sets_written all room (omega (arith, whole.1)) in
          ap (range_came (Ok m)) put ∙ written_all

      -- the second walk breaks off no more than the first
      pub fill_whole : {A : Type 0} (r : Result ℕ Broken) (after : List ℕ) → tallied r after ≡ gathered east north rect room 0 seen → (b : Broken) → r ≡ Err b → A
      fill_whole r after w b off = absurd (never _ whole.0 (walk_breaks_off east north rect seen room 0 b (sym (ap (λ (g : Gathered). g.tally) w) ∙ off)))

      -- all that was found was kept
      pub fill_keeps : m ≤ length near → (copied : List ℕ) → copied ≡ take m near → range_came (Ok m) (copied ++ drop m room) ≡ looked east north rect seen room
      fill_keeps k copied w =
          let size : length near ≡ length near₀ = ap (λ (g : Gathered). length g.room) counted ∙ walk_size east north rect seen near₀ 0 in
          let here : near ≡ written all near₀ =
          ap (λ (g : Gathered). g.room) (counted ∙ walk_whole east north rect seen near₀ 0 whole.0) ∙ sets_written all near₀ (omega (arith, whole.1)) in
          let kept : take m near ≡ all = ap (take m) here ∙ take_at all (drop (length all) near₀) m (sym whole.1) in
          ap (range_came (Ok m)) (ap₂ (λ (l : List ℕ) (k : ℕ). l ++ drop k room) (w ∙ kept) whole.1) ∙ written_all
