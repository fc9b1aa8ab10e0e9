-- For the reader: the rest of a name has one outcome, its bytes and its place in memory, and the same for the folded text.
-- Assumes nothing.
use mathlib.Core.Path.{◌≡◌, sym, ap, ap₂, ◌∙◌}
use mathlib.Core.List.{List}
use Prim.Native.Nat.{ℕ, ◌+◌}
use Rattle.rules.specs.Names.{folded_text}
use Rattle.rules.proofs.Folds.{rest-folded, rest-at-folded}
use Rattle.table.specs.Parts.{Rest}

pub one_rest : (text starts : List ℕ) (i : ℕ) (typed : List ℕ) (whole : ℕ × ℕ) (part part' : List ℕ) (place place' : ℕ × ℕ)
    → Rest text starts i typed whole part place → Rest text starts i typed whole part' place' → (part ≡ part') × (place ≡ place')
one_rest text starts i typed whole part part' place place' r s =
    (r.bytes ∙ sym s.bytes, ap₂ (λ (b o : ℕ). (b, o)) (r.block ∙ sym s.block) (r.offset ∙ sym s.offset))

pub same_rest : (text starts : List ℕ) (i : ℕ) (typed : List ℕ) (whole : ℕ × ℕ) (part : List ℕ) (place : ℕ × ℕ)
    → Rest text starts i typed whole part place → Rest text starts i (folded_text typed) whole part place
same_rest text starts i typed whole part place r =
    record {
      bytes = r.bytes ∙ sym (rest-folded text starts i typed);
      block = r.block;
      offset = r.offset ∙ ap (λ (n : ℕ). whole.1 + n) (sym (rest-at-folded text starts i typed));
    }
