-- For the reader: that the last key of k is larger than the key of an entry's bound and first stand is the rule of specs/PassingOver.antt,
-- no less and no more. Assumes nothing.
use mathlib.Core.Path.{◌≡◌, sym, ap, ◌∙◌}
use mathlib.Core.Bool.{true}
use mathlib.Core.List.{List}
use Prim.Native.Nat.{ℕ, ◌-◌, ◌≤◌, ◌<◌}
use native.Mathlib.Omega.{arith}
use lib.Dec.{ltb, leb}
use lib.ListN.{length, get_or}
use borrow.Author.Tests.{leb-true, le-leb}
use Rattle.base.specs.Lists.{In, each}
use Rattle.base.proofs.Tests.{and_parts}
use Rattle.base.proofs.Members.{get_or_in, length-each, get_or-each}
use Rattle.base.proofs.Sorts.{wins, win}
use Rattle.rules.specs.declared.Hit.{Hit}
use Rattle.rules.specs.Questions.{better}
use Rattle.best.specs.Keys.{key_of}
use Rattle.best.proofs.Keys.{better-larger}
use Rattle.search.specs.Searches.{passed_over}
use Rattle.search.specs.PassingOver.{last_held, PassedOver}

module _ (k : ℕ) (held : List Hit) (bound first : ℕ) (some : 0 < k) (few : length held ≤ k) (below : (h : Hit) → In h held → h.stand < 1024) (small : first < 1024) where
  most : Hit
  most = record { stand = first; value = bound }

  last_key : k ≤ length held → ltb (key_of most) (get_or (each key_of held) (k - 1) 0) ≡ better (last_held k held) most
  unfolding most
  last_key full =
      ap (ltb (key_of most)) (get_or-each key_of held (k - 1) (record { stand = 0; value = 0 }) 0 (omega arith))
      ∙ sym (better-larger (last_held k held) most (below (last_held k held) (get_or_in (record { stand = 0; value = 0 }) held (k - 1) (omega arith))) small)

  by_rule : passed_over k (each key_of held) (key_of most) ≡ true → PassedOver k held bound first
  unfolding passed_over most
  by_rule e =
      let s = and_parts (leb k (length (each key_of held))) (ltb (key_of most) (get_or (each key_of held) (k - 1) 0)) e in
      let full : k ≤ length held = omega (arith, leb-true k (length (each key_of held)) s.0, length-each key_of held) in
      record { full = omega arith; beaten = wins (λ h. h.value) (λ h. h.stand) (last_held k held) most (sym (last_key full) ∙ s.1) }

  rule_by : PassedOver k held bound first → passed_over k (each key_of held) (key_of most) ≡ true
  unfolding passed_over most
  rule_by r =
      let full : k ≤ length held = omega (arith, r.full) in
      rw (le-leb k (length (each key_of held)) (omega (arith, length-each key_of held)))
      (last_key full ∙ win (λ h. h.value) (λ h. h.stand) (last_held k held) most r.beaten)

  pub pass_over_is : (passed_over k (each key_of held) (key_of (record { stand = first; value = bound })) ≡ true → PassedOver k held bound first)
      × (PassedOver k held bound first → passed_over k (each key_of held) (key_of (record { stand = first; value = bound })) ≡ true)
  unfolding most
  pass_over_is = (by_rule, rule_by)
