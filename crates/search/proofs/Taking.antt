-- One entry passed over or taken, and the loop over the listed entries: those that are left give what all of them give.
-- Assumes nothing.
use mathlib.Core.Path.{◌≡◌, ap, ◌∙◌}
use mathlib.Core.Bool.{true, false}
use mathlib.Core.List.{List}
use Prim.Native.Nat.{ℕ, suc, ◌+◌, ◌-◌, ◌≤◌, ◌<◌}
use native.Mathlib.Omega.{arith}
use native.Mathlib.Numerals.{add-one}
use lib.ListN.{length}
use lib.Seq.{slice}
use Rattle.std.specs.Prelude.{Result, Ok, Err}
use Rattle.rules.specs.declared.Broken.{Broken}
use Rattle.rules.specs.declared.Grid.{Grid}
use Rattle.rules.specs.declared.Ranking.{Ranking}
use Rattle.walk.specs.declared.entry.Entry.{Entry}
use Rattle.walk.specs.Walks.{broken}
use Rattle.walk.specs.Entries.{entry_read}
use Rattle.best.specs.Keys.{key_of}
use Rattle.search.specs.Searches.{StandColumns, Kept, and_then, stands_offered, usable, bound_hit, passed_over, entry_taken, read_taken, entries_taken, Keeps}
use Rattle.search.proofs.Keeping.{held_is, broken_is}

module _ (c : StandColumns) (g : Grid) (q : Ranking) (order : List ℕ) (x : Entry) (held : List ℕ) where
  pub passed : length held ≤ q.k → passed_over q.k held (key_of (bound_hit g q order x)) ≡ true → Keeps (entry_taken c g q order x held) q.k held (Ok tt)
  unfolding entry_taken
  passed few e = record { is = rw e; few = few }

  pub not_passed : (after : List ℕ) (r : Result Unit Broken) → passed_over q.k held (key_of (bound_hit g q order x)) ≡ false
      → Keeps (stands_offered c g q (slice x.first.0 x.past.0 order) held) q.k after r
      → Keeps (entry_taken c g q order x held) q.k after r
  unfolding entry_taken
  not_passed after r e w = rw e w

-- at entry n, short of entry past
pub record Taking (c : StandColumns) (g : Grid) (q : Ranking) (order entries : List ℕ) (whole : Kept) (held : List ℕ) (n past : ℕ) : Type 0 where
  pub few : length held ≤ q.k
  pub rest : entries_taken c g q order entries (past - n) n held ≡ whole

module _ (c : StandColumns) (g : Grid) (q : Ranking) (order entries : List ℕ) (whole : Kept) (held : List ℕ) (n past : ℕ) (w : Taking c g q order entries whole held n past) where
  pub take_done : past ≤ n → Keeps whole q.k held (Ok tt)
  unfolding entries_taken
  take_done h = let none : past - n ≡ 0 = omega arith in record { is = rw none at w.rest; few = w.few }

  module _ (some : n < past) (r : Result Entry Broken) (this : r ≡ entry_read entries (length order) n) where
    -- this entry, then the others
    onward : (s : Kept) → read_taken c g q order r held ≡ s → and_then s (λ held. entries_taken c g q order entries (past - (n + 1)) (suc n) held) ≡ whole
    unfolding entries_taken
    onward s h = let one : past - n ≡ suc (past - (n + 1)) = omega arith in rw (← h, this) (rw one at w.rest)

    pub unread : (b : Broken) → r ≡ Err b → Keeps whole q.k held (Err b)
    unread b h = record { is = onward (Err b) (rw h); few = w.few }

    module _ (x : Entry) (at : r ≡ Ok x) where
      pub unusable : usable order x ≡ false → Keeps whole q.k held (Err broken)
      unusable h = record { is = onward (Err broken) (rw (at, h)); few = w.few }

      module _ (able : usable order x ≡ true) (after : List ℕ) (a : Result Unit Broken) (k : Keeps (entry_taken c g q order x held) q.k after a) where
        pub take_next : (u : Unit) → a ≡ Ok u → Taking c g q order entries whole after (n + 1) past
        take_next u h =
            record {
              few = k.few;
              rest = ap (λ (m : ℕ). entries_taken c g q order entries (past - (n + 1)) m after) (add-one n) ∙ onward (Ok after) (rw (at, able) (held_is _ _ _ _ k u h));
            }

        pub take_stop : (b : Broken) → a ≡ Err b → Keeps whole q.k after (Err b)
        take_stop b h = record { is = onward (Err b) (rw (at, able) (broken_is _ _ _ _ k b h)); few = k.few }
