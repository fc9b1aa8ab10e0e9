-- No two different answers have the same numbers, so what a call promises of its numbers settles its answer.
-- A refusal is read back from its number, which is not 0; the other answers go case by case. Assumes nothing.
use mathlib.Core.Path.{◌≡◌, refl, sym, ap, ap₂, ◌∙◌}
use mathlib.Core.Bool.{false}
use mathlib.Core.List.{List, [], ◌∷◌}
use Prim.Native.Nat.{ℕ, ◌-◌}
use native.Mathlib.Omega.{arith}
use lib.Dec.{eqb}
use lib.ListN.{get_or}
use borrow.Author.Tests.{eqb-false}
use Rattle.rules.specs.declared.Refusal.{Refusal}
use Rattle.rules.specs.declared.Refusal.TheVariants.{TableMisshapen, GridOutsideLimits, NameNotAllowed, NamesOutOfOrder, StandNotAllowed, BufferTooSmall, NotLawful, TextByteNotAllowed, TextTooLong, NothingToRubOut, RectReversed, QuestionOutsideLimits, RoomTooSmall, InputMalformed}
use Rattle.rules.specs.declared.RangeRefusal.{RangeRefusal}
use Rattle.rules.specs.declared.Sizes.{Sizes}
use Rattle.rules.specs.declared.Stand.{Stand}
use Rattle.std.specs.Prelude.{Option, Some, None, Result, Ok, Err}
use Rattle.rules.specs.Numbers.{refusal_number, Told, BuildTold, CheckTold, AnyTold, verdict_number, told_numbers, built_numbers, checked_numbers, range_numbers, any_numbers}

-- the refusals in the order of their numbers
in_turn : List Refusal
in_turn =
    TableMisshapen
    ∷ GridOutsideLimits
    ∷ NameNotAllowed
    ∷ NamesOutOfOrder
    ∷ StandNotAllowed
    ∷ BufferTooSmall
    ∷ NotLawful
    ∷ TextByteNotAllowed
    ∷ TextTooLong
    ∷ NothingToRubOut
    ∷ RectReversed
    ∷ QuestionOutsideLimits
    ∷ RoomTooSmall
    ∷ InputMalformed
    ∷ []

refusal_of : ℕ → Refusal
refusal_of n = get_or in_turn (n - 1) InputMalformed

-- each is read back from its number, which is not 0
refusal_back : (r : Refusal) → (refusal_of (refusal_number r) ≡ r) × (eqb (refusal_number r) 0 ≡ false)
unfolding in_turn refusal_of
refusal_back TableMisshapen = (refl, refl)
refusal_back GridOutsideLimits = (refl, refl)
refusal_back NameNotAllowed = (refl, refl)
refusal_back NamesOutOfOrder = (refl, refl)
refusal_back StandNotAllowed = (refl, refl)
refusal_back BufferTooSmall = (refl, refl)
refusal_back NotLawful = (refl, refl)
refusal_back TextByteNotAllowed = (refl, refl)
refusal_back TextTooLong = (refl, refl)
refusal_back NothingToRubOut = (refl, refl)
refusal_back RectReversed = (refl, refl)
refusal_back QuestionOutsideLimits = (refl, refl)
refusal_back RoomTooSmall = (refl, refl)
refusal_back InputMalformed = (refl, refl)

pub refusal_some : (r : Refusal) → refusal_number r ≡ 0 → ⊥
refusal_some r e = eqb-false (refusal_number r) 0 (refusal_back r).1 e

pub one_refusal : (a b : Refusal) → refusal_number a ≡ refusal_number b → a ≡ b
one_refusal a b e = sym (refusal_back a).0 ∙ ap refusal_of e ∙ (refusal_back b).0

pub one_verdict : (v w : Result Unit Refusal) → verdict_number v ≡ verdict_number w → v ≡ w
one_verdict (Ok u) (Ok v) e = refl
one_verdict (Ok u) (Err r) e = absurd (refusal_some r (sym e))
one_verdict (Err r) (Ok u) e = absurd (refusal_some r e)
one_verdict (Err r) (Err s) e = ap Err (one_refusal r s e)

pub one_told : (a b : Result ℕ Refusal) → told_numbers a ≡ told_numbers b → a ≡ b
one_told (Ok n) (Ok m) e = ap (λ (n : Told). Ok n.number) e
one_told (Ok n) (Err r) e = absurd (refusal_some r (sym (ap (λ (n : Told). n.refusal) e)))
one_told (Err r) (Ok n) e = absurd (refusal_some r (ap (λ (n : Told). n.refusal) e))
one_told (Err r) (Err s) e = ap Err (one_refusal r s (ap (λ (n : Told). n.refusal) e))

pub one_built : (a b : Result Sizes Refusal) → built_numbers a ≡ built_numbers b → a ≡ b
one_built (Ok s) (Ok u) e = ap (λ (n : BuildTold). Ok (record { nodes = n.nodes; entries = n.entries; bits = n.bits })) e
one_built (Ok s) (Err r) e = absurd (refusal_some r (sym (ap (λ (n : BuildTold). n.refusal) e)))
one_built (Err r) (Ok s) e = absurd (refusal_some r (ap (λ (n : BuildTold). n.refusal) e))
one_built (Err r) (Err q) e = ap Err (one_refusal r q (ap (λ (n : BuildTold). n.refusal) e))

pub one_checked : (c d : Option Sizes) → checked_numbers c ≡ checked_numbers d → c ≡ d
one_checked (Some s) (Some u) e = ap (λ (n : CheckTold). Some (record { nodes = n.nodes; entries = n.entries; bits = n.bits })) e
one_checked (Some s) None e = absurd (omega (arith, ap (λ (n : CheckTold). n.lawful) e))
one_checked None (Some s) e = absurd (omega (arith, ap (λ (n : CheckTold). n.lawful) e))
one_checked None None e = refl

pub one_range : (a b : Result ℕ RangeRefusal) → range_numbers a ≡ range_numbers b → a ≡ b
one_range (Ok n) (Ok m) e = ap (λ (n : Told). Ok n.number) e
one_range (Ok n) (Err r) e = absurd (refusal_some r.why (sym (ap (λ (n : Told). n.refusal) e)))
one_range (Err r) (Ok n) e = absurd (refusal_some r.why (ap (λ (n : Told). n.refusal) e))
one_range (Err r) (Err s) e =
    ap₂ (λ why matches. Err (record { why = why; matches = matches })) (one_refusal r.why s.why (ap (λ (n : Told). n.refusal) e)) (ap (λ (n : Told). n.number) e)

pub one_any : (a b : Result (Option Stand) Refusal) → any_numbers a ≡ any_numbers b → a ≡ b
one_any (Ok (Some s)) (Ok (Some u)) e = ap (λ (n : AnyTold). Ok (Some (record { 0 = n.stand }))) e
one_any (Ok (Some s)) (Ok None) e = absurd (omega (arith, ap (λ (n : AnyTold). n.yes) e))
one_any (Ok (Some s)) (Err r) e = absurd (refusal_some r (sym (ap (λ (n : AnyTold). n.refusal) e)))
one_any (Ok None) (Ok (Some u)) e = absurd (omega (arith, ap (λ (n : AnyTold). n.yes) e))
one_any (Ok None) (Ok None) e = refl
one_any (Ok None) (Err r) e = absurd (refusal_some r (sym (ap (λ (n : AnyTold). n.refusal) e)))
one_any (Err r) (Ok (Some s)) e = absurd (refusal_some r (ap (λ (n : AnyTold). n.refusal) e))
one_any (Err r) (Ok None) e = absurd (refusal_some r (ap (λ (n : AnyTold). n.refusal) e))
one_any (Err r) (Err s) e = ap Err (one_refusal r s (ap (λ (n : AnyTold). n.refusal) e))
