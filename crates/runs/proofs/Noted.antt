-- What the pass over a list of entries notes: each entry's number, at its region.
-- Assumes nothing.
use mathlib.Core.Path.{◌≡◌, refl, ap}
use mathlib.Core.Logic.{◌⊎◌, inl, inr, ⊎_elim}
use mathlib.Core.Bool.{true}
use mathlib.Core.List.{List, [], ◌∷◌}
use Prim.Native.Nat.{ℕ, suc, ◌+◌, ◌/◌, ◌≤◌, ◌<◌}
use native.Mathlib.Omega.{arith}
use lib.Dec.{eqb}
use lib.ListN.{length, get_or, set, length-set}
use lib.Seq.{get_or-set_same, get_or-set_other}
use borrow.Table.Steps.{cases}
use borrow.Author.Tests.{eqb-true, eqb-false, lt-ltb}
use Rattle.base.specs.Lists.{each, In}
use Rattle.walk.specs.declared.entry.Entry.{Entry}
use Rattle.walk.specs.Entries.{SpelledFrom, entry_word}
use Rattle.walk.proofs.Spelled.{read_is, read_there, read_region}
use Rattle.runs.specs.Notes.{notes_of, note_from}

-- for each entry in turn its number, counted from i, put at its region
abbrev pub put_numbers : List Entry → ℕ → List ℕ → List ℕ
put_numbers [] i l = l
put_numbers (x ∷ es) i l = put_numbers es (suc i) (set l x.region i)

pub note_list : (words : List ℕ) (places first : ℕ) (es : List Entry) (i : ℕ) (numbers : List ℕ) → SpelledFrom words places (first + i) es
    → note_from words first (length es) i numbers ≡ notes_of (put_numbers es i numbers) true
unfolding note_from
note_list words places first [] i numbers w = refl
note_list words places first (x ∷ es) i numbers w =
    let region : entry_word words (first + i) 0 ≡ x.region = ap (λ (e : Entry). e.region) (read_is words places (first + i) _ x refl w.0) in
    let small : x.region < 64 = read_region words places (first + i) _ x refl w.0 in
    let next : suc (first + i) ≡ first + suc i = omega arith in
    rw (region, lt-ltb x.region 64 small) (note_list words places first es (suc i) (set numbers x.region i) (rw next at w.1))

-- entries that stand one after the other are all there
pub spelled_fit : (words : List ℕ) (places number : ℕ) (es : List Entry) → 0 < length es → SpelledFrom words places number es → number + length es ≤ length words / 4
spelled_fit words places number [] h w = absurd (omega arith)
spelled_fit words places number (x ∷ []) h w = omega (arith, read_there words places number _ x refl w.0)
spelled_fit words places number (x ∷ y ∷ es) h w = omega (arith, spelled_fit words places (suc number) (y ∷ es) (omega arith) w.1)

-- where each entry's number is right for its region, and the region small, what is noted at the region of any of them is right for it
abbrev pub AllRight : (ℕ → ℕ → Type 0) → ℕ → List Entry → ℕ → Type 0
AllRight Right size [] i = Unit {0}
AllRight Right size (x ∷ es) i = Right i x.region × (x.region < size) × AllRight Right size es (suc i)

pub noted_right : (Right : ℕ → ℕ → Type 0) (es : List Entry) (i : ℕ) (l : List ℕ) → AllRight Right (length l) es i
    → (r : ℕ) → In r (each (λ x. x.region) es) ⊎ Right (get_or l r 0) r → Right (get_or (put_numbers es i l) r 0) r
noted_right Right [] i l all r (inl h) = absurd h
noted_right Right [] i l all r (inr e) = e
noted_right Right (x ∷ es) i l all r h =
    let still : AllRight Right (length (set l x.region i)) es (suc i) = rw (length-set l x.region i) all.2 in
    noted_right Right es (suc i) (set l x.region i) still r
    (cases (eqb r x.region)
    (λ q. inr (rw (eqb-true r x.region q, get_or-set_same l x.region i 0 all.1) all.0))
    (λ q.
    let other = eqb-false r x.region q in
    ⊎_elim (⊎_elim (λ e. absurd (other e)) inl) (λ e. inr (rw (get_or-set_other l x.region r i 0 other) e)) h))
