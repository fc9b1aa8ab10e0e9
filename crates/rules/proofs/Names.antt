-- Beginnings, and so sessions, depend on the names of a table alone: not on places and scores.
-- Assumes nothing.
use mathlib.Core.Path.{◌≡◌, ap, ap₂, ◌∙◌}
use mathlib.Core.Bool.{cond, not}
use mathlib.Core.List.{List, [], ◌∷◌, ◌++◌}
use Prim.Native.Nat.{ℕ, zero, suc, ◌-◌, ◌<◌}
use native.Mathlib.Omega.{arith}
use lib.Dec.{leb, ltb}
use lib.ListN.{length, take, replicate}
use Rattle.base.specs.Lists.{up_to, each, each_list, keep, begins}
use Rattle.base.proofs.Members.{each_list_same}
use Rattle.base.proofs.Runs.{in_from}
use Rattle.rules.specs.declared.Session.{Session}
use Rattle.rules.specs.Tables.{Table, stands, name_of}
use Rattle.rules.specs.Indexes.{beginnings_of, new_at, beginnings, number_in}
use Rattle.rules.specs.Sessions.{session_of}

-- as many stands, with the same names
pub record SameNames (t t' : Table) : Type 0 where
  pub many : stands t ≡ stands t'
  pub names : (i : ℕ) → i < stands t → name_of t i ≡ name_of t' i

module _ (t t' : Table) (s : SameNames t t') where
  new_same : (i : ℕ) → i < stands t → new_at t i ≡ new_at t' i
  new_same zero h = ap beginnings_of (s.names 0 h)
  new_same (suc i) h = ap₂ (λ (m n : List ℕ). keep (λ p. not (begins p m)) (beginnings_of n)) (s.names i (omega arith)) (s.names (suc i) h)

  pub same_beginnings : beginnings t ≡ beginnings t'
  unfolding beginnings
  same_beginnings =
      ap (λ (l : List (List ℕ)). [] ∷ l)
      (each_list_same (new_at t) (new_at t') (up_to (stands t)) (λ i h. new_same i (omega (arith, in_from 0 (stands t) i h)))
      ∙ ap (λ (n : ℕ). each_list (new_at t') (up_to n)) s.many)

  pub same_session : (p : List ℕ) → session_of t p ≡ session_of t' p
  unfolding session_of
  same_session p = ap by same_beginnings
    where
      -- the session by the beginnings
      by : List (List ℕ) → Session
      by B =
          record {
            text = p ++ replicate (24 - length p) 0;
            len = length p;
            path = each (λ i. cond (leb i (length p)) (cond (ltb (number_in (take i p) B) (length B)) (number_in (take i p) B) 0) 0) (up_to 25);
          }
