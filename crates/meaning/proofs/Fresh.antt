-- The beginnings of a name that are no beginnings of the name before: they are the ones longer than what the two share.
-- Assumes nothing.
use mathlib.Core.Path.{◌≡◌, sym, ap, ◌∙◌}
use mathlib.Core.Bool.{Bool, true, false, not}
use mathlib.Core.List.{List, []}
use Prim.Native.Nat.{ℕ, suc, ◌+◌, ◌-◌, ◌≤◌}
use native.Mathlib.Numerals.{one-add}
use native.Mathlib.Omega.{arith}
use lib.ListN.{length, take, length-take}
use borrow.Author.Tests.{not-true}
use Rattle.base.specs.Lists.{from_on, keep, each, begins, shared_length, In}
use Rattle.base.proofs.Tests.{refuted}
use Rattle.base.proofs.Members.{in-keep, keep-in, keep_none, keep-every, keep_append, keep-each, in-each, each_in}
use Rattle.base.proofs.Runs.{in_from, from_in, from_split}
use Rattle.base.proofs.Begins.{begins-length, take_begins, begins_is_take, shared_le_other, shared_begins, past_shared}
use Rattle.rules.specs.Indexes.{beginnings_of}
use Rattle.meaning.specs.Trees.{fresh}

pub fresh_takes : (m n : List ℕ) → fresh m n ≡ each (λ l. take l n) (from_on (suc (shared_length m n)) (length n - shared_length m n))
fresh_takes m n =
    let new : ℕ → Bool = λ l. not (begins (take l n) m) in
    let shared = shared_length m n in
    let few = shared_le_other m n in
    -- the lengths up to what is shared, and the longer ones
    let e : length n ≡ shared + (length n - shared) = omega arith in
    let old = keep_none new (from_on 1 shared) (λ x h. rw (shared_begins m n x (omega (arith, in_from 1 shared x h)))) in
    let longer = keep-every new (from_on (1 + shared) (length n - shared)) (λ x h.
    let r = in_from (1 + shared) (length n - shared) x h in rw (past_shared m n x (omega arith) (omega arith))) in
    keep-each (λ p. not (begins p m)) (λ l. take l n) (from_on 1 (length n))
    ∙ ap (λ k. each (λ l. take l n) (keep new (from_on 1 k))) e
    ∙ rw (from_split 1 shared (length n - shared), keep_append new (from_on 1 shared) (from_on (1 + shared) (length n - shared)), old, longer, one-add shared)

in-beginnings : (n p : List ℕ) → In p (beginnings_of n) → (begins p n ≡ true) × (1 ≤ length p)
in-beginnings n p h =
    let t = in-each (λ l. take l n) (from_on 1 (length n)) p h in
    let r = in_from 1 (length n) t.0 t.1 in
    (rw t.2 (take_begins t.0 n), rw t.2 (simp length-take (omega arith)))

beginnings-in : (n p : List ℕ) → begins p n ≡ true → 1 ≤ length p → In p (beginnings_of n)
beginnings-in n p h k =
    let w = begins-length p n h in
    let e : take (length p) n ≡ p = sym (begins_is_take p n h) in
    rw e at (each_in (λ l. take l n) (from_on 1 (length n)) (length p) (from_in 1 (length n) (length p) k (omega arith)))

pub in-fresh : (m n p : List ℕ) → In p (fresh m n) → (begins p n ≡ true) × (begins p m ≡ false) × (1 ≤ length p)
in-fresh m n p h =
    let t = keep-in (λ p. not (begins p m)) (beginnings_of n) p h in
    let s = in-beginnings n p t.0 in
    (s.0, not-true (begins p m) t.1, s.1)

pub fresh_in : (m n p : List ℕ) → begins p n ≡ true → begins p m ≡ false → 1 ≤ length p → In p (fresh m n)
fresh_in m n p h k l = in-keep (λ p. not (begins p m)) (beginnings_of n) p (beginnings-in n p h l) (rw k)

-- after no name every beginning is new
pub fresh-all : (n : List ℕ) → beginnings_of n ≡ fresh [] n
fresh-all n =
    sym (keep-every (λ p. not (begins p [])) (beginnings_of n) (λ x h.
    let some = (in-beginnings n x h).1 in rw (refuted (begins x []) (λ b. omega (arith, begins-length x [] b)))))
