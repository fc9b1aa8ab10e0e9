-- `names::same_letter`: a plain byte is read as itself, any other as its fold.
-- Assumes nothing.
use Prim.Native.Nat.{ℕ}
use mathlib.Core.Bool.{true, false}
use mathlib.Core.Path.{◌≡◌, sym, ◌∙◌}
use lib.Dec.{eqb}
use borrow.Author.Tests.{eq-eqb, ne_eqb}
use Rattle.table.proofs.names.same_letter.Goals as goal

-- however the letter was come by
module _ {letter read other : ℕ} (e : letter ≡ read) where
  like : letter ≡ other → true ≡ eqb read other
  like h = sym (eq-eqb read other (sym e ∙ h))

  unlike : (letter ≡ other → ⊥) → false ≡ eqb read other
  unlike h = sym (ne_eqb read other (λ k. h (e ∙ k)))

pub returns-then-byte-name : goal.returns-then-byte-name
returns-then-byte-name c = unlike (c.plain.ensures c.if-plain.true) c.if-byte-name.true

pub returns-then-folded-name : goal.returns-then-folded-name
returns-then-folded-name c = unlike c.folded.ensures c.if-folded-name.true

pub returns-else-byte-name : goal.returns-else-byte-name
returns-else-byte-name c = like (c.plain.ensures c.if-plain.true) c.if-byte-name.false

pub returns-else-folded-name : goal.returns-else-folded-name
returns-else-folded-name c = like c.folded.ensures c.if-folded-name.false
