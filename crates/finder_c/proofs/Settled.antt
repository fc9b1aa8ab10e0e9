-- No two outcomes for a C call: what it returns, and every buffer, room and session after it, is determined by what it was lent.
-- Where the call under it may give 7, on a lawful set and session. Assumes nothing.
use mathlib.Core.Path.{◌≡◌, sym, ap, ap₂, ◌∙◌}
use mathlib.Core.Bool.{true}
use mathlib.Core.List.{List}
use Prim.Native.Nat.{ℕ}
use Rattle.rules.specs.declared.Grid.{Grid}
use Rattle.rules.specs.declared.Place.{Place}
use Rattle.rules.specs.declared.Rect.{Rect}
use Rattle.rules.specs.declared.Ranking.{Ranking}
use Rattle.rules.specs.declared.Session.{Session}
use Rattle.rules.specs.Numbers.{Told, BuildTold, CheckTold, AnyTold, built_numbers, verdict_number}
use Rattle.rules.specs.Places.{region_told}
use Rattle.rules.specs.Tables.{Table}
use Rattle.rules.specs.Outcomes.{Outcome, outcome}
use Rattle.rules.specs.Indexes.{Index, set_lawful, check_told}
use Rattle.rules.specs.Sessions.{LawfulSession}
use Rattle.rules.specs.Promises.{RangePromise, AnyPromise, RankedPromise, LawfulBoth, TypedRangePromise, TypedAnyPromise, TypedRankedPromise}
use Rattle.rules.proofs.Outcomes.{one_outcome}
use Rattle.index.specs.Promises.{BuildPromise}
use Rattle.index.proofs.Outcomes.{one_building}
use Rattle.session.specs.Promises.{KeyPromise, TableOf, TypePromise, RubPromise}
use Rattle.session.proofs.Sessions as session
use Rattle.finder_c.specs.declared.Located.{Located}
use Rattle.finder_c.specs.declared.Built.{Built}
use Rattle.finder_c.specs.declared.Checked.{Checked}
use Rattle.finder_c.specs.declared.Found.{Found}
use Rattle.finder_c.specs.declared.AnyFound.{AnyFound}
use Rattle.finder_c.specs.declared.Part.{Part}
use Rattle.finder_c.specs.Told.{Tells, located_told, built_told, checked_told, found_told, any_told, RestPart}

-- ---- records are told apart by what they tell

located-apart : (r s : Located) → located_told r ≡ located_told s → r ≡ s
located-apart r s e = ap (λ (n : Told). record { refusal = n.refusal; region = n.number }) e

built_apart : (r s : Built) → built_told r ≡ built_told s → r ≡ s
built_apart r s e = ap (λ (n : BuildTold). record { refusal = n.refusal; nodes = n.nodes; entries = n.entries; bits = n.bits }) e

checked_apart : (r s : Checked) → checked_told r ≡ checked_told s → r ≡ s
checked_apart r s e = ap (λ (n : CheckTold). record { lawful = n.lawful; nodes = n.nodes; entries = n.entries; bits = n.bits }) e

found_apart : (r s : Found) → found_told r ≡ found_told s → r ≡ s
found_apart r s e = ap (λ (n : Told). record { refusal = n.refusal; count = n.number }) e

any_apart : (r s : AnyFound) → any_told r ≡ any_told s → r ≡ s
any_apart r s e = ap (λ (n : AnyTold). record { refusal = n.refusal; yes = n.yes; stand = n.stand }) e

-- ---- one law for the calls that tell of an answer

one_told : {Answer Numbers : Type 0} (numbers : Answer → Numbers) (P Q : Answer → Type 0) → ((a b : Answer) → P a → Q b → a ≡ b) → (n m : Numbers) → Tells numbers P n → Tells numbers Q m → n ≡ m
one_told numbers P Q one n m p q = p.same ∙ ap numbers (one p.answer q.answer p.promised q.promised) ∙ sym q.same

-- ---- the calls

pub region_settled : (g : Grid) (p : Place) (r s : Located) → located_told r ≡ region_told g p → located_told s ≡ region_told g p → r ≡ s
region_settled g p r s e f = located-apart r s (e ∙ sym f)

module _ (t : Table) (g : Grid) (x : Index) where
  pub build_settled : (r s : Built) (y z : Index)
      → Tells built_numbers (λ a. BuildPromise t g x a y) (built_told r) → Tells built_numbers (λ a. BuildPromise t g x a z) (built_told s) → (r ≡ s) × (y ≡ z)
  build_settled r s y z p q = (
    built_apart r s (one_told built_numbers (λ a. BuildPromise t g x a y) (λ a. BuildPromise t g x a z) (λ a b u v. (one_building t g x a b y z u v).0) _ _ p q),
    (one_building t g x p.answer q.answer y z p.promised q.promised).1,
  )

  pub check_settled : (r s : Checked) → checked_told r ≡ check_told t g x → checked_told s ≡ check_told t g x → r ≡ s
  check_settled r s e f = checked_apart r s (e ∙ sym f)

  -- a question, by its outcome
  found_settled : (r s : Found) (rooms rooms' : List (List ℕ)) → outcome (found_told r) rooms ≡ outcome (found_told s) rooms' → (r ≡ s) × (rooms ≡ rooms')
  found_settled r s rooms rooms' e = (found_apart r s (ap (λ (o : Outcome). o.told) e), ap (λ (o : Outcome). o.rooms) e)

  module _ (r s : Found) (rooms after after' : List (List ℕ)) where
    module _ (law : set_lawful t g x ≡ true) (p : List ℕ) where
      pub range_settled : (w : Rect) → RangePromise t g x p w rooms (outcome (found_told r) after) → RangePromise t g x p w rooms (outcome (found_told s) after') → (r ≡ s) × (after ≡ after')
      range_settled w m n = found_settled r s after after' (one_outcome _ _ _ _ law _ _ m n)

      pub ranked_settled : (q : Ranking) → RankedPromise t g x p q rooms (outcome (found_told r) after) → RankedPromise t g x p q rooms (outcome (found_told s) after') → (r ≡ s) × (after ≡ after')
      ranked_settled q m n = found_settled r s after after' (one_outcome _ _ _ _ law _ _ m n)

    module _ (u : Session) (law : LawfulBoth t g x u) where
      pub range_typed_settled : (w : Rect) → TypedRangePromise t g x u w rooms (outcome (found_told r) after) → TypedRangePromise t g x u w rooms (outcome (found_told s) after') → (r ≡ s) × (after ≡ after')
      range_typed_settled w m n = found_settled r s after after' (one_outcome _ _ _ _ law _ _ m n)

      pub ranked_typed_settled : (q : Ranking) → TypedRankedPromise t g x u q rooms (outcome (found_told r) after) → TypedRankedPromise t g x u q rooms (outcome (found_told s) after') → (r ≡ s) × (after ≡ after')
      ranked_typed_settled q m n = found_settled r s after after' (one_outcome _ _ _ _ law _ _ m n)

  module _ (r s : AnyFound) (w : Rect) where
    pub any_settled : set_lawful t g x ≡ true → (p : List ℕ) → AnyPromise t g x p w (any_told r) → AnyPromise t g x p w (any_told s) → r ≡ s
    any_settled law p m n = any_apart r s (one_outcome _ _ _ _ law _ _ m n)

    pub any_typed_settled : (u : Session) → LawfulBoth t g x u → TypedAnyPromise t g x u w (any_told r) → TypedAnyPromise t g x u w (any_told s) → r ≡ s
    any_typed_settled u law m n = any_apart r s (one_outcome _ _ _ _ law _ _ m n)

-- a keystroke of either kind: Served t says that it was lent the nodes of table t
key_settled : (refusal : List ℕ → ℕ) (letters : List ℕ → List ℕ) (Served : Table → Type 0) (t : Table) → Served t → (u u' u'' : Session) → LawfulSession t u → (n m : ℕ)
    → Tells verdict_number (KeyPromise refusal letters Served u u') n → Tells verdict_number (KeyPromise refusal letters Served u u'') m → (n ≡ m) × (u' ≡ u'')
key_settled refusal letters Served t of u u' u'' l n m p q = (
  one_told verdict_number (KeyPromise refusal letters Served u u') (KeyPromise refusal letters Served u u'') (λ v w a b. (session.one_outcome refusal letters Served u u' u'' v w t of l a b).0) n m p q,
  (session.one_outcome refusal letters Served u u' u'' p.answer q.answer t of l p.promised q.promised).1,
)

module _ (t : Table) (u u' u'' : Session) (l : LawfulSession t u) (n m : ℕ) where
  pub type_settled : (nodes : List ℕ) (b : ℕ) → TableOf nodes t
      → Tells verdict_number (λ v. TypePromise nodes b u u' v) n → Tells verdict_number (λ v. TypePromise nodes b u u'' v) m → (n ≡ m) × (u' ≡ u'')
  type_settled nodes b of = key_settled _ _ (TableOf nodes) t of u u' u'' l n m

  pub rub_out_settled : Tells verdict_number (λ v. RubPromise u u' v) n → Tells verdict_number (λ v. RubPromise u u'' v) m → (n ≡ m) × (u' ≡ u'')
  rub_out_settled = key_settled _ _ (λ t. Unit {0}) t tt u u' u'' l n m

pub rest-settled : (text starts : List ℕ) (i : ℕ) (typed : List ℕ) (r s : Part) → RestPart text starts i typed r → RestPart text starts i typed s → r ≡ s
rest-settled text starts i typed r s p q = ap₂ (λ (a b : ℕ). record { start = a; length = b }) (p.begins ∙ sym q.begins) (p.long ∙ sym q.long)
