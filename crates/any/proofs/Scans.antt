-- The scan's loops, by what is left to look at. Assumes nothing.
use mathlib.Core.Path.{◌≡◌, sym, ap, ◌∙◌}
use mathlib.Core.Bool.{true, false}
use mathlib.Core.List.{List, [], ◌∷◌, ◌++◌}
use Prim.Native.Nat.{ℕ, ◌+◌, ◌≤◌, ◌<◌}
use native.Mathlib.Omega.{arith}
use native.Mathlib.Numerals.{add-one}
use lib.IntN.{ℤ}
use lib.ListN.{length, get_or, drop, drop_of_length-le}
use lib.Seq.{drop-cons}
use Rattle.std.specs.Prelude.{Option, Some, None, Result, Ok, Err}
use Rattle.std.specs.Borrow.{Bor}
use Rattle.rules.specs.declared.Broken.{Broken}
use Rattle.rules.specs.declared.Place.{Place}
use Rattle.rules.specs.declared.Rect.{Rect}
use Rattle.rules.specs.declared.Refusal.{Refusal}
use Rattle.rules.specs.declared.Refusal.TheVariants.{NotLawful}
use Rattle.rules.specs.declared.Stand.{Stand}
use Rattle.rules.specs.Places.{in_rect}
use Rattle.runs.specs.Sights.{sighted, Noted, run_seen, run_of, touched_stands, Ready}
use Rattle.runs.proofs.Sights.{is_unknown}
use Rattle.runs.proofs.Walks.{run_and_later}
use Rattle.any.specs.Scans.{first_seen}

-- what is left to look at comes to what the whole does
abbrev pub Left : List ℤ → List ℤ → Rect → List ℕ → List ℕ → Type 0
Left east north rect whole left = first_seen east north rect whole ≡ first_seen east north rect left

module _ (east north : List ℤ) (rect : Rect) where
  abbrev scan : List ℕ → Result (Option Stand) Refusal
  scan seen = first_seen east north rect seen

  -- ---- at place i of a run, with more behind it

  module _ (whole run later : List ℕ) (i : ℕ) (left : Left east north rect whole (drop i run ++ later)) where
    module _ (l : i < length run) (seen : Result Place Broken) (is : seen ≡ sighted east north (get_or run i 0)) where
      turn : scan whole ≡ scan (get_or run i 0 ∷ (drop (i + 1) run ++ later))
      turn = left ∙ ap scan (ap (λ (r : List ℕ). r ++ later) (drop-cons run i 0 l) ∙ rw (add-one i))

      pub scan_breaks : (b : Broken) → seen ≡ Err b → Err NotLawful ≡ scan whole
      unfolding first_seen
      scan_breaks b e = sym (turn ∙ rw (← is, e))

      module _ (p : Place) (at : seen ≡ Ok p) where
        pub scan_hits : in_rect rect p ≡ true → Ok (Some (record { 0 = get_or run i 0 })) ≡ scan whole
        unfolding first_seen
        scan_hits e = sym (turn ∙ rw (← is, at, e))

        pub scan_misses : in_rect rect p ≡ false → Left east north rect whole (drop (i + 1) run ++ later)
        unfolding first_seen
        scan_misses e = turn ∙ rw (← is, at, e)

    pub run_ends : length run ≤ i → Left east north rect whole later
    run_ends h = left ∙ ap (λ (r : List ℕ). scan (r ++ later)) (drop_of_length-le run {i = i} h)

  -- ---- at the first region that is left

  module _ (n : Noted) (regions left : List ℕ) (same : Left east north rect (touched_stands n regions) (touched_stands n left)) where
    module _ (r : ℕ) (later : List ℕ) (next : left ≡ r ∷ later) (read : Result (Bor (List ℕ)) Broken) (is : run_seen n read ≡ run_of n r) where
      here_and_later : Left east north rect (touched_stands n regions) (run_seen n read ++ touched_stands n later)
      here_and_later =
          same ∙ ap scan (run_and_later left r later next n ∙ ap (λ (run : List ℕ). run ++ touched_stands n later) (sym is))

      pub scan_unread : Ready east north n → (b : Broken) → read ≡ Err b → Err NotLawful ≡ scan (touched_stands n regions)
      unfolding first_seen
      scan_unread ready b e = sym (here_and_later ∙ rw (e, ← is_unknown east north n.stands (omega (arith, ready.all))))

      pub run_begins : (run : Bor (List ℕ)) → read ≡ Ok run → Left east north rect (touched_stands n regions) (drop 0 run.now ++ touched_stands n later)
      run_begins run e = here_and_later ∙ rw e

    -- ---- no region is left

    pub scan_ends : left ≡ [] → Ok None ≡ scan (touched_stands n regions)
    unfolding first_seen
    scan_ends none = sym (same ∙ ap (λ (l : List ℕ). scan (touched_stands n l)) none)
