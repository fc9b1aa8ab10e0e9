-- The loop that fills a list from the front, one place after the other. Front is its invariant, for any f of a place.
-- Assumes nothing.
use mathlib.Core.Path.{◌≡◌, sym, ap, ◌∙◌}
use mathlib.Core.List.{List, [], ◌∷◌}
use Prim.Native.Nat.{ℕ, ◌+◌, ◌≤◌, ◌<◌}
use native.Mathlib.Omega.{arith}
use native.Mathlib.Numerals.{add-one}
use lib.ListN.{length, take, set, length-set}
use lib.Seq.{take-suc-set}
use Rattle.base.specs.Lists.{up_to, each}
use Rattle.base.proofs.Members.{each_append}
use Rattle.base.proofs.Runs.{up_to-suc}

pub record Front (f : ℕ → ℕ) (n : ℕ) (column : List ℕ) (i : ℕ) : Type 0 where
  pub within : i ≤ n
  pub room : n ≤ length column
  pub now : take i column ≡ each f (up_to i)

module _ {f : ℕ → ℕ} {n : ℕ} {column : List ℕ} {i : ℕ} (s : Front f n column i) where
  pub front_more : {v : ℕ} → i < n → v ≡ f i → Front f n (set column i v) (i + 1)
  front_more {v} h e =
      record {
        within = omega arith;
        room = rw (length-set column i v) s.room;
        now = rw (add-one i, take-suc-set column i v (omega (arith, s.room)), s.now, e) (sym (ap (each f) (up_to-suc i) ∙ each_append f (up_to i) (i ∷ [])));
      }

  pub front_end : n ≤ i → take n column ≡ each f (up_to n)
  front_end h = let e : i ≡ n = omega (arith, s.within) in rw e at s.now
