-- What is written is read back: `read_back` has it for numbers and for lines.
-- Assumes nothing.
use mathlib.Core.Path.{◌≡◌, refl, sym, ap, ◌∙◌, ap₂}
use mathlib.Core.Logic.{⊎_elim}
use mathlib.Core.List.{List, [], ◌∷◌, ◌++◌, append_assoc}
use Rattle.std.specs.Prelude.{Option, Some, None}
use Rattle.std.proofs.lemmas.Option.{none-some, some_pair_parts}
use Prim.Native.Nat.{ℕ, suc, ◌<◌}
use native.Mathlib.Numerals.{add-one}
use native.Mathlib.Omega.{arith}
use lib.Dec.{eqb}
use lib.ListN.{length, take, drop, length-append, take-append-drop}
use lib.Seq.{take-append_seam, drop-append_seam, drop-append-add}
use borrow.Table.Steps.{cases}
use borrow.Author.Tests.{lt-ltb, ltb-true, eqb-true, eqb-false}
use Rattle.base.specs.Lists.{In, position_in}
use Rattle.base.proofs.Tests.{tested}
use Rattle.base.proofs.Begins.{begins-append, begins_is_take}
use Rattle.base.proofs.Members.{position_seam}
use Rattle.lines.specs.Writing.{line, OneLine}
use Rattle.lines.specs.Reads.{Got, got, Reader, onward, to_feed, bytes_line, valued, value_line}
use Rattle.lines.specs.Back.{ValueBack, ReadBack, WrittenReadBack}
use Rattle.lines.proofs.Decimals.{decimal_law, decimal_line, signed_law, signed_line_lem}

pub lost : {A X : Type 0} {a : A} {rest : List ℕ} → None ≡ got a rest → X
lost e = absurd (none-some _ e)

-- what holds of what was given holds of what is got
pub as_got : {A : Type 0} (P : A → List ℕ → Type 0) (a b : A) (l rest : List ℕ) → got a l ≡ got b rest → P a l → P b rest
as_got P a b l rest e p = let s = some_pair_parts a b l rest e in rw (s.0, s.1) at p

-- where two readers in a row got something, so did the first, and the second behind it
pub in_a_row : {A B X : Type 0} (x : Got A) (f : A → Reader B) (b : B) (rest : List ℕ) → onward x f ≡ got b rest
    → ((a : A) (l : List ℕ) → x ≡ got a l → f a l ≡ got b rest → X) → X
unfolding onward
in_a_row (Some (a, l)) f b rest e next = next a l refl e
in_a_row None f b rest e next = lost e

-- a list splits where x first stands
position_split : (x : ℕ) (l : List ℕ) → position_in x l < length l → (In x (take (position_in x l) l) → ⊥) × (l ≡ take (position_in x l) l ++ (x ∷ drop (suc (position_in x l)) l))
position_split x [] h = absurd (omega arith)
position_split x (y ∷ l) h =
    cases (eqb x y)
    (λ q. rw q (λ i. i, ap (λ z. z ∷ l) (sym (eqb-true x y q))))
    (λ q.
    let s = position_split x l (omega (arith, rw q at h)) in
    rw q (⊎_elim (eqb-false x y q) s.0, ap (λ m. y ∷ m) s.1))

feed_back : (v rest : List ℕ) → OneLine v → to_feed (v ++ (10 ∷ rest)) ≡ got v rest
unfolding to_feed
feed_back v rest h =
    let f : length v < length (v ++ (10 ∷ rest)) = omega (arith, length-append v (10 ∷ rest)) in
    rw (position_seam 10 v rest h, lt-ltb _ _ f, take-append_seam v (10 ∷ rest), ← add-one (length v), drop-append-add v (10 ∷ rest) 1)

feed_sound : (l v rest : List ℕ) → to_feed l ≡ got v rest → OneLine v × (l ≡ v ++ (10 ∷ rest))
unfolding to_feed
feed_sound l v rest e =
    let t = tested _ lost e in
    as_got (λ v rest. OneLine v × (l ≡ v ++ (10 ∷ rest))) _ v _ rest t.1 (position_split 10 l (ltb-true _ _ t.0))

-- a line is its key, its value and the feed
parts : (key v rest : List ℕ) → line key v ++ rest ≡ key ++ (v ++ (10 ∷ rest))
unfolding line
parts key v rest = simp append_assoc

bytes_law : (key : List ℕ) → ReadBack (line key) OneLine (bytes_line key)
unfolding bytes_line
bytes_law key = record { back = back; sound = sound }
  where
    back : (v rest : List ℕ) → OneLine v → bytes_line key (line key v ++ rest) ≡ got v rest
    back v rest h = rw (parts key v rest, begins-append key (v ++ (10 ∷ rest)), drop-append_seam key (v ++ (10 ∷ rest))) (feed_back v rest h)

    sound : (l v rest : List ℕ) → bytes_line key l ≡ got v rest → OneLine v × (l ≡ line key v ++ rest)
    sound l v rest e =
        let q = tested _ lost e in
        let t = feed_sound (drop (length key) l) v rest q.1 in
        (t.0, sym (take-append-drop (length key) l) ∙ ap₂ ◌++◌ (sym (begins_is_take key l q.0)) t.1 ∙ sym (parts key v rest))

module _ {A : Type 0} (key : List ℕ) {write : A → List ℕ} {InOrder : A → Type 0} {read : List ℕ → Option A} (law : ValueBack write InOrder read) (one : (a : A) → OneLine (write a)) where
  of_value : (l v rest₀ : List ℕ) (o : Option A) (a : A) (rest : List ℕ) → l ≡ line key v ++ rest₀ → read v ≡ o → valued o rest₀ ≡ got a rest
      → InOrder a × (l ≡ line key (write a) ++ rest)
  of_value l v rest₀ None a rest s q e = lost e
  of_value l v rest₀ (Some a') a rest s q e =
      let w = law.sound a' v q in
      as_got (λ b m. InOrder b × (l ≡ line key (write b) ++ m)) a' a rest₀ rest e (w.0, rw w.1 at s)

  -- a value that is read back by itself is read back in a line
  value_law : ReadBack (λ a. line key (write a)) InOrder (value_line read key)
  unfolding value_line onward
  value_law =
      record {
        back = λ a rest h. rw ((bytes_law key).back (write a) rest (one a), law.back a h);
        sound = λ l a rest e. in_a_row _ _ a rest e (λ v rest₀ q f. of_value l v rest₀ (read v) a rest ((bytes_law key).sound l v rest₀ q).1 refl f);
      }

pub read_back : WrittenReadBack
read_back =
    record {
      decimal = decimal_law;
      signed = signed_law;
      bytes_line = bytes_law;
      unsigned_line = λ most key. value_law key (decimal_law most) decimal_line;
      signed_line = λ key. value_law key signed_law signed_line_lem;
    }

-- what is behind a line goes on being read
pub past-line : {A B X : Type 0} {write : A → List ℕ} {InOrder : A → Type 0} {read : Reader A} → ReadBack write InOrder read
    → (l : List ℕ) (f : A → Reader B) (b : B) (rest : List ℕ) → onward (read l) f ≡ got b rest
    → ((a : A) (m : List ℕ) → InOrder a → l ≡ write a ++ m → f a m ≡ got b rest → X) → X
past-line law l f b rest e next = in_a_row _ _ b rest e (λ a m q g. let s = law.sound l a m q in next a m s.0 s.1 g)
