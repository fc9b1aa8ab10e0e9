-- One turn of each loop, by what is left to do. Assumes nothing.
use mathlib.Core.Path.{◌≡◌, refl, sym, ap, ◌∙◌}
use mathlib.Core.Bool.{true, false}
use mathlib.Core.List.{List, [], ◌∷◌, ◌++◌}
use Prim.Native.Nat.{ℕ, ◌+◌, ◌*◌, ◌≤◌, ◌<◌}
use native.Mathlib.Omega.{arith}
use native.Mathlib.Numerals.{add-one}
use lib.IntN.{ℤ}
use lib.ListN.{length, get_or, set, drop, drop_of_length-le}
use lib.Seq.{drop-cons}
use Rattle.std.specs.Prelude.{Result, Ok, Err}
use Rattle.std.specs.Borrow.{Bor}
use Rattle.base.proofs.Members.{length-keep}
use Rattle.rules.specs.declared.Broken.{Broken}
use Rattle.rules.specs.declared.Place.{Place}
use Rattle.rules.specs.declared.Rect.{Rect}
use Rattle.rules.specs.Places.{in_rect}
use Rattle.walk.specs.Walks.{broken}
use Rattle.runs.specs.Sights.{inside, sighted, Noted, run_seen, run_of, touched_stands, Ready}
use Rattle.runs.proofs.Sights.{is_unknown}
use Rattle.runs.proofs.Walks.{run-short, run_and_later}
use Rattle.range.specs.Fetches.{Gathered, tallied, gathered}
use Rattle.range.proofs.Gathers.{stand_off, stand-in, stand_out, walk_from, walk_counts}

-- ---- gather_run: at place i of a run, with n found

pub record Gathering (east north : List ℤ) (rect : Rect) (found₀ : List ℕ) (before : ℕ) (run found : List ℕ) (i n : ℕ) : Type 0 where
  pub room : before + length run < 4294967296
  pub few : n ≤ before + i
  pub same : gathered east north rect found₀ before run ≡ gathered east north rect found n (drop i run)

module _ (east north : List ℤ) (rect : Rect) (found₀ : List ℕ) (before : ℕ) (run : List ℕ) where
  pub run_begins : before + length run < 4294967296 → Gathering east north rect found₀ before run found₀ 0 before
  run_begins h = record { room = h; few = omega arith; same = refl }

  module _ (found : List ℕ) (i n : ℕ) (w : Gathering east north rect found₀ before run found i n) where
    module _ (l : i < length run) (seen : Result Place Broken) (is : seen ≡ sighted east north (get_or run i 0)) where
      here : drop i run ≡ get_or run i 0 ∷ drop (i + 1) run
      here = drop-cons run i 0 l ∙ rw (add-one i)

      pub run_breaks : (b : Broken) → seen ≡ Err b → tallied (Err b) found ≡ gathered east north rect found₀ before run
      run_breaks b e = sym (w.same ∙ ap (gathered east north rect found n) here ∙ stand_off east north rect (get_or run i 0) (drop (i + 1) run) found n seen is b e)

      -- one place on, with what is found by then
      module _ (p : Place) (at : seen ≡ Ok p) (found' : List ℕ) (n' : ℕ) where
        pub run-hit : in_rect rect p ≡ true → found' ≡ set found n (get_or run i 0) → n' ≡ n + 1 → Gathering east north rect found₀ before run found' (i + 1) n'
        run-hit q f m =
            rw (f, m) (record {
              room = w.room;
              few = omega (arith, w.few);
              same = w.same ∙ ap (gathered east north rect found n) here ∙ stand-in east north rect (get_or run i 0) (drop (i + 1) run) found n seen is p at q ∙ rw (add-one n);
            })

        pub run_miss : in_rect rect p ≡ false → found' ≡ found → n' ≡ n → Gathering east north rect found₀ before run found' (i + 1) n'
        run_miss q f m =
            rw (f, m) (record {
              room = w.room;
              few = omega (arith, w.few);
              same = w.same ∙ ap (gathered east north rect found n) here ∙ stand_out east north rect (get_or run i 0) (drop (i + 1) run) found n seen is p at q;
            })

    pub run_ends : length run ≤ i → tallied (Ok n) found ≡ gathered east north rect found₀ before run
    unfolding gathered
    run_ends h = sym (w.same ∙ rw (drop_of_length-le run {i = i} h))

-- ---- gather: before the regions that are left, with n found

pub record Sweeping (east north : List ℤ) (n : Noted) (rect : Rect) (regions found₀ found : List ℕ) (m : ℕ) (left : List ℕ) : Type 0 where
  pub few : m + 1024 * length left ≤ 65536
  pub same : gathered east north rect found₀ 0 (touched_stands n regions) ≡ gathered east north rect found m (touched_stands n left)

module _ (east north : List ℤ) (n : Noted) (rect : Rect) (regions found₀ : List ℕ) where
  pub sweep_begins : length regions ≤ 64 → Sweeping east north n rect regions found₀ found₀ 0 regions
  sweep_begins h = record { few = omega arith; same = refl }

  module _ (ready : Ready east north n) (found : List ℕ) (m : ℕ) (left : List ℕ) (w : Sweeping east north n rect regions found₀ found m left) where
    module _ (r : ℕ) (later : List ℕ) (next : left ≡ r ∷ later) (read : Result (Bor (List ℕ)) Broken) (is : run_seen n read ≡ run_of n r) where
      here_and_later : gathered east north rect found₀ 0 (touched_stands n regions) ≡ gathered east north rect found m (run_seen n read ++ touched_stands n later)
      here_and_later =
          w.same
          ∙ ap (gathered east north rect found m) (run_and_later left r later next n ∙ ap (λ (run : List ℕ). run ++ touched_stands n later) (sym is))

      -- where the region's entry cannot be gone by, what is seen first is not of the table
      pub sweep_unread : (b : Broken) → read ≡ Err b → tallied (Err b) found ≡ gathered east north rect found₀ 0 (touched_stands n regions)
      sweep_unread b e =
          sym (here_and_later
          ∙ ap (λ (a : Result (Bor (List ℕ)) Broken). gathered east north rect found m (run_seen n a ++ touched_stands n later)) e
          ∙ stand_off east north rect n.stands (touched_stands n later) found m (Err broken) (is_unknown east north n.stands (omega (arith, ready.all))) b refl)

      module _ (run : Bor (List ℕ)) (e : read ≡ Ok run) where
        there : run.now ≡ run_of n r
        there = sym (ap (run_seen n) e) ∙ is

        short : length run.now ≤ 1024
        short = omega (arith, ap length there, run-short n r east north ready)

        -- what the run's walk asks for
        pub sweep_room : m + length run.now < 4294967296
        sweep_room = omega (arith, w.few, short, ap length next)

        on : gathered east north rect found₀ 0 (touched_stands n regions) ≡ gathered east north rect found m (run.now ++ touched_stands n later)
        on = here_and_later ∙ ap (λ (a : Result (Bor (List ℕ)) Broken). gathered east north rect found m (run_seen n a ++ touched_stands n later)) e

        pub sweep_on : (t : Result ℕ Broken) (k : ℕ) (found' : List ℕ) → tallied t found' ≡ gathered east north rect found m run.now → t ≡ Ok k
            → Sweeping east north n rect regions found₀ found' k later
        sweep_on t k found' walked q =
            let walk = rw q at walked in
            let count = (walk_counts east north rect run.now found m k (ap (λ (g : Gathered). g.tally) (sym walk))).1 in
            let kept = length-keep (inside east north rect) run.now in
            record {
              few = omega (arith, w.few, short, ap length next);
              same = on ∙ walk_from east north rect (Ok k) run.now (touched_stands n later) found found' m walk;
            }

        pub sweep_breaks : (t : Result ℕ Broken) (b : Broken) (found' : List ℕ) → tallied t found' ≡ gathered east north rect found m run.now → t ≡ Err b
            → tallied (Err b) found' ≡ gathered east north rect found₀ 0 (touched_stands n regions)
        sweep_breaks t b found' walked q = sym (on ∙ walk_from east north rect (Err b) run.now (touched_stands n later) found found' m (rw q at walked))

    pub sweep_ends : left ≡ [] → tallied (Ok m) found ≡ gathered east north rect found₀ 0 (touched_stands n regions)
    unfolding gathered
    sweep_ends none = sym (w.same ∙ ap (λ (l : List ℕ). gathered east north rect found m (touched_stands n l)) none)
