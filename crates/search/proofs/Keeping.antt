-- What a step's answer says of the search, and what the last of k held says.
-- Assumes nothing.
use mathlib.Core.Path.{◌≡◌, sym, ap, ◌∙◌}
use mathlib.Core.Bool.{true, false}
use mathlib.Core.List.{List}
use Prim.Native.Nat.{ℕ, ◌-◌, ◌≤◌, ◌<◌}
use native.Mathlib.Omega.{arith}
use lib.Dec.{ltb, leb}
use lib.ListN.{length, take, get_or}
use borrow.Table.Steps.{cases}
use borrow.Author.Tests.{ltb-true, leb-true, lt-ltb}
use Rattle.std.specs.Prelude.{Option, Some, None, Result, Ok, Err}
use Rattle.base.specs.Lists.{insert_by}
use Rattle.base.proofs.Tests.{and_parts}
use Rattle.rules.specs.declared.Broken.{Broken}
use Rattle.best.specs.Keys.{larger}
use Rattle.best.specs.Holds.{Falling, kth}
use Rattle.best.proofs.Offers.{unmoved}
use Rattle.search.specs.Searches.{Kept, kept_of, Keeps, passed_over}

module _ (s : Kept) (k : ℕ) (held : List ℕ) (r : Result Unit Broken) (w : Keeps s k held r) where
  pub held_is : (u : Unit) → r ≡ Ok u → s ≡ Ok held
  held_is u e = sym w.is ∙ ap (λ (a : Result Unit Broken). kept_of a held) e

  pub broken_is : (b : Broken) → r ≡ Err b → s ≡ Err b
  broken_is b e = sym w.is ∙ ap (λ (a : Result Unit Broken). kept_of a held) e

module _ (k key : ℕ) (held : List ℕ) where
  pub not_full : kth k held ≡ None → false ≡ passed_over k held key
  unfolding kth passed_over
  not_full e = cases (leb k (length held)) (λ f. let z : ◌≡◌ {A = Option ℕ} (Some (get_or held (k - 1) 0)) None = rw f at e in cc) (λ f. rw f)

  pub last_decides : (last : ℕ) → kth k held ≡ Some last → ltb key last ≡ passed_over k held key
  unfolding kth passed_over
  last_decides last e =
      cases (leb k (length held))
      (λ f. let z : ◌≡◌ {A = Option ℕ} (Some (get_or held (k - 1) 0)) (Some last) = rw f at e in let same : get_or held (k - 1) 0 ≡ last = cc in rw (f, same))
      (λ f. let z : ◌≡◌ {A = Option ℕ} None (Some last) = rw f at e in cc)

  -- what k held pass over changes nothing
  pub passed_kept : 0 < k → length held ≤ k → Falling held → passed_over k held key ≡ true → held ≡ take k (insert_by larger key held)
  unfolding passed_over
  passed_kept some few falling e =
      let s = and_parts (leb k (length held)) (ltb key (get_or held (k - 1) 0)) e in
      unmoved k key held falling some (omega (arith, leb-true k (length held) s.0)) (omega (arith, ltb-true key (get_or held (k - 1) 0) s.1))

  -- and a key no larger than one that is passed over is so, too
  pub passed_below : (more : ℕ) → key ≤ more → passed_over k held more ≡ true → true ≡ passed_over k held key
  unfolding passed_over
  passed_below more l e =
      let s = and_parts (leb k (length held)) (ltb more (get_or held (k - 1) 0)) e in
      rw (s.0, lt-ltb key (get_or held (k - 1) 0) (omega (arith, ltb-true more (get_or held (k - 1) 0) s.1)))
