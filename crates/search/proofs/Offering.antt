-- One stand offered, and the loop that offers the stands of an entry: what is left of them gives what all of them give.
-- Assumes nothing.
use mathlib.Core.Path.{◌≡◌, ap, ◌∙◌}
use mathlib.Core.Bool.{true, false}
use mathlib.Core.List.{List, []}
use Prim.Native.Nat.{ℕ, suc, ◌+◌, ◌≤◌, ◌<◌}
use native.Mathlib.Omega.{arith}
use native.Mathlib.Numerals.{add-one}
use lib.ListN.{length, take, drop, get_or, length-take}
use lib.Seq.{drop-cons}
use Rattle.std.proofs.lemmas.List.{drop_all}
use Rattle.std.specs.Prelude.{Result, Ok, Err}
use Rattle.base.specs.Lists.{insert_by}
use Rattle.rules.specs.declared.Broken.{Broken}
use Rattle.rules.specs.declared.Grid.{Grid}
use Rattle.rules.specs.declared.Ranking.{Ranking}
use Rattle.walk.specs.Walks.{broken}
use Rattle.best.specs.Keys.{key_of, larger}
use Rattle.search.specs.Searches.{StandColumns, Kept, and_then, readable_stand, hit_in, stand_offered, stands_offered, Keeps}
use Rattle.search.proofs.Keeping.{held_is, broken_is}

module _ (c : StandColumns) (g : Grid) (q : Ranking) (s : ℕ) (held : List ℕ) where
  pub unreadable : length held ≤ q.k → readable_stand c g s ≡ false → Keeps (stand_offered c g q s held) q.k held (Err broken)
  unfolding stand_offered
  unreadable few e = record { is = rw e; few = few }

  pub seen : (key : ℕ) (after : List ℕ) → readable_stand c g s ≡ true → key ≡ key_of (hit_in c g q s) → after ≡ take q.k (insert_by larger key held)
      → Keeps (stand_offered c g q s held) q.k after (Ok tt)
  unfolding stand_offered
  seen key after e h o =
      record {
        is = rw e (ap Ok (o ∙ ap (λ (n : ℕ). take q.k (insert_by larger n held)) h));
        few = omega (arith, ap length o, length-take q.k (insert_by larger key held));
      }

-- of these stands those before number i were offered
pub record Offering (c : StandColumns) (g : Grid) (q : Ranking) (stands : List ℕ) (whole : Kept) (held : List ℕ) (i : ℕ) : Type 0 where
  pub few : length held ≤ q.k
  pub rest : stands_offered c g q (drop i stands) held ≡ whole

module _ (c : StandColumns) (g : Grid) (q : Ranking) (stands : List ℕ) (whole : Kept) (held : List ℕ) (i : ℕ) (w : Offering c g q stands whole held i) where
  module _ (more : i < length stands) (after : List ℕ) (r : Result Unit Broken) (k : Keeps (stand_offered c g q (get_or stands i 0) held) q.k after r) where
    opened : and_then (stand_offered c g q (get_or stands i 0) held) (λ held. stands_offered c g q (drop (suc i) stands) held) ≡ whole
    unfolding stands_offered
    opened = rw (drop-cons stands i 0 more) at w.rest

    pub offer_next : (u : Unit) → r ≡ Ok u → Offering c g q stands whole after (i + 1)
    offer_next u e = record { few = k.few; rest = rw add-one (rw (held_is _ _ _ _ k u e) at opened) }

    pub offer_stop : (b : Broken) → r ≡ Err b → Keeps whole q.k after (Err b)
    offer_stop b e = record { is = rw (broken_is _ _ _ _ k b e) at opened; few = k.few }

  pub offer_done : length stands ≤ i → Keeps whole q.k held (Ok tt)
  unfolding stands_offered
  offer_done h = let none : drop i stands ≡ [] = drop_all i stands h in record { is = rw none at w.rest; few = w.few }
