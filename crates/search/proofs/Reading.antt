-- What it says that a stand can be read and an entry be used, both ways.
-- Assumes nothing.
use mathlib.Core.Path.{◌≡◌}
use mathlib.Core.Bool.{true}
use mathlib.Core.List.{List}
use Prim.Native.Nat.{ℕ, ◌≤◌, ◌<◌}
use lib.ListN.{length, get_or}
use borrow.Author.Tests.{ltb-true, leb-true, lt-ltb, le-leb}
use Rattle.base.proofs.Tests.{every-at, every_of}
use Rattle.rules.specs.declared.Grid.{Grid}
use Rattle.rules.specs.Places.{in_grid}
use Rattle.rules.specs.Tables.{place_in}
use Rattle.walk.specs.declared.entry.Entry.{Entry}
use Rattle.search.specs.Searches.{StandColumns, readable_stand, usable}

-- ---- a stand

pub record StandFacts (c : StandColumns) (g : Grid) (s : ℕ) : Type 0 where
  pub small : s < 1024
  pub has_east : s < length c.east
  pub has_north : s < length c.north
  pub has_score : s < length c.score
  pub scored : get_or c.score s 0 ≤ 1000
  pub inside : in_grid g (place_in c.east c.north s) ≡ true

module _ (c : StandColumns) (g : Grid) (s : ℕ) where
  pub stand_facts : readable_stand c g s ≡ true → StandFacts c g s
  unfolding readable_stand
  stand_facts e =
      record {
        small = ltb-true _ _ (every-at _ 0 e);
        has_east = ltb-true _ _ (every-at _ 1 e);
        has_north = ltb-true _ _ (every-at _ 2 e);
        has_score = ltb-true _ _ (every-at _ 3 e);
        scored = leb-true _ _ (every-at _ 4 e);
        inside = every-at _ 5 e;
      }

  pub stand_read : StandFacts c g s → readable_stand c g s ≡ true
  unfolding readable_stand
  stand_read f =
      every_of _
      (lt-ltb _ _ f.small, (lt-ltb _ _ f.has_east, (lt-ltb _ _ f.has_north, (lt-ltb _ _ f.has_score, (le-leb _ _ f.scored, (f.inside, tt))))))

-- ---- an entry

pub record EntryFacts (order : List ℕ) (x : Entry) : Type 0 where
  pub scored : x.score ≤ 1000
  pub some : x.first.0 < x.past.0
  pub small : get_or order x.first.0 0 < 1024

module _ (order : List ℕ) (x : Entry) where
  pub entry_facts : usable order x ≡ true → EntryFacts order x
  unfolding usable
  entry_facts e =
      record {
        scored = leb-true _ _ (every-at _ 0 e);
        some = ltb-true _ _ (every-at _ 1 e);
        small = ltb-true _ _ (every-at _ 2 e);
      }

  pub entry_usable : EntryFacts order x → usable order x ≡ true
  unfolding usable
  entry_usable f = every_of _ (le-leb _ _ f.scored, (lt-ltb _ _ f.some, (lt-ltb _ _ f.small, tt)))
