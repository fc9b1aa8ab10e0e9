-- How words are put into a room or compared with it, part after part, by what is left of them.
-- Assumes nothing.
use mathlib.Core.Path.{◌≡◌, refl, sym, ap, ◌∙◌}
use mathlib.Core.Logic.{⊎_elim}
use mathlib.Core.Bool.{Bool, true, false, ◌&&◌}
use mathlib.Core.List.{List, [], ◌∷◌, ◌++◌, append_assoc}
use Prim.Native.Nat.{ℕ, suc, ◌+◌, ◌-◌, ◌*◌, ◌≤◌, ◌<◌, min}
use native.Mathlib.Omega.{arith}
use native.Mathlib.Numerals.{add-one}
use native.Mathlib.Nat.{add-zero}
use lib.ListN.{length, take, drop, set, length-append, take-append-drop, drop_of_length-le, length-drop}
use lib.Seq.{take_all, sets, length-sets, sets-eq, drop-drop, length-take-le, drop-cons}
use lib.Dec.{eqb}
use Rattle.std.specs.List.{starts_with}
use Rattle.base.specs.Lists.{each, begins}
use Rattle.rules.specs.Indexes.{Entry, entry_row}
use Rattle.base.proofs.Tests.{le_or_lt}
use Rattle.base.proofs.Members.{length-each}
use Rattle.base.proofs.Rows as rows
use Rattle.base.proofs.Begins.{begins_parts}
use Rattle.node.specs.Columns.{at, Sized, entry_from, entries_from}
use Rattle.node.specs.declared.Work.{Work}
use Rattle.words.specs.Over.{over}
use Rattle.words.specs.Words.{entry_rows, entries_held}

-- ---- words in a room that has place for them are stored one after the other

over_sets : (d : List ℕ) (p : ℕ) (w : List ℕ) → p + length w ≤ length d → over d p w ≡ sets d p w
unfolding over
over_sets d p w h = sym (sets-eq w d p h ∙ append_assoc (take p d) w (drop (p + length w) d))

pub over-set : (d : List ℕ) (p x : ℕ) → p < length d → set d p x ≡ over d p (x ∷ [])
over-set d p x h = sym (over_sets d p (x ∷ []) (omega arith))

pub over_none : (d : List ℕ) (p : ℕ) → over d p [] ≡ d
unfolding over
over_none d p = rw (add-zero p) (take-append-drop p d)

sets_sets : (d : List ℕ) (p : ℕ) (w v : List ℕ) → sets (sets d p w) (p + length w) v ≡ sets d p (w ++ v)
sets_sets d p [] v = rw add-zero
sets_sets d p (x ∷ w) v = let e : p + suc (length w) ≡ suc p + length w = omega arith in rw e (sets_sets (set d p x) (suc p) w v)

-- what is left of some words: first w, then rest'
pub record Next (rest w rest' : List ℕ) : Type 0 where
  pub is : rest ≡ w ++ rest'

-- ---- words put into a room d from place p on: it is `room` by now, and the rest comes to place q

pub record Filled (d : List ℕ) (p : ℕ) (words room rest : List ℕ) (q : ℕ) : Type 0 where
  pub size : length room ≡ length d
  pub fits : q + length rest ≤ length room
  pub left : sets room q rest ≡ over d p words

module _ {d : List ℕ} {p : ℕ} {words : List ℕ} where
  pub filled : {q : ℕ} → q ≡ p → p + length words ≤ length d → Filled d p words d words q
  filled e h = record { size = refl; fits = omega arith; left = rw e (sym (over_sets d p words h)) }

  module _ {room rest : List ℕ} {q : ℕ} (f : Filled d p words room rest q) where
    module _ {w rest' : List ℕ} (e : Next rest w rest') where
      lengths : length rest ≡ length w + length rest'
      lengths = ap length e.is ∙ length-append w rest'

      pub filled-room : q + length w ≤ length room
      filled-room = omega (arith, f.fits, lengths)

      pub filled_more : {room' : List ℕ} {q' : ℕ} → room' ≡ over room q w → q' ≡ q + length w → Filled d p words room' rest' q'
      filled_more r n =
          let size = length-sets room q w in
          rw (r, n, over_sets room q w filled-room) record { size = size ∙ f.size; fits = omega (arith, f.fits, lengths); left = sets_sets room q w rest' ∙ rw (← e.is) f.left }

    pub filled_end : rest ≡ [] → room ≡ over d p words
    filled_end e = rw e at f.left

-- ---- words compared with a room from place p on: the rest, from place q on, decides

pub record From (room : List ℕ) (p : ℕ) (words rest : List ℕ) (q : ℕ) : Type 0 where
  pub is : begins words (drop p room) ≡ begins rest (drop q room)

module _ {room : List ℕ} {p : ℕ} {words rest : List ℕ} {q : ℕ} (f : From room p words rest q) where
  module _ {w rest' : List ℕ} (e : Next rest w rest') where
    pub part : begins words (drop p room) ≡ begins w (drop q room) && begins rest' (drop (q + length w) room)
    part = f.is ∙ rw (e.is, begins_parts w rest' (drop q room), drop-drop (length w) q room)

    pub from_not : begins w (drop q room) ≡ false → false ≡ begins words (drop p room)
    from_not h = sym (part ∙ rw h)

    pub from_more : {q' : ℕ} → q' ≡ q + length w → begins w (drop q room) ≡ true → From room p words rest' q'
    from_more n h = record { is = part ∙ rw (h, n) }

  pub from_end : rest ≡ [] → true ≡ begins words (drop p room)
  from_end e = sym (f.is ∙ rw e)

pub word_next : (w : List ℕ) (k : ℕ) → k < length w → Next (drop k w) (at w k ∷ []) (drop (k + 1) w)
word_next w k h = record { is = rw (add-one k) (drop-cons w k 0 h) }

-- ---- a part of a room that is compared, by the library's own words

starts_begins : (w n : List ℕ) → starts_with eqb n w ≡ begins w n
starts_begins [] n = refl
starts_begins (a ∷ w) [] = refl
starts_begins (a ∷ w) (b ∷ n) = ap (λ (r : Bool). eqb a b && r) (starts_begins w n)

-- from place p on, which may be past the end
pub starts_there : (d w : List ℕ) (p m : ℕ) {r : Bool} → m ≡ min p (length d) → r ≡ starts_with eqb (take (length d - m) (drop m d)) w → r ≡ begins w (drop p d)
starts_there d w p m {r} e f =
    let there : drop m d ≡ drop p d =
    ⊎_elim
    (λ (q : length d ≤ p). drop_of_length-le d {i = m} (omega (arith, e)) ∙ sym (drop_of_length-le d q))
    (λ (q : p < length d). let k : m ≡ p = omega (arith, e) in ap (λ (n : ℕ). drop n d) k)
    (le_or_lt (length d) p) in
    let all : take (length d - m) (drop m d) ≡ drop p d = take_all (length d - m) (drop m d) (omega (arith, length-drop m d)) ∙ there in
    (rw all at f) ∙ starts_begins w (drop p d)

-- ---- entry after entry, out of the slots of the ranked regions

pub length_rows : (l : List Entry) → length (entry_rows l) ≡ length l * 4
length_rows = rows.length_rows entry_row 4 (λ e. refl)

-- the words of the entries from rank k on
unfoldable pub slots_from : Work → (held k : ℕ) → List ℕ
slots_from w held k = entry_rows (each (entry_from w.best w.next w.places) (drop k (take held w.ranked)))

module _ (w : Work) (held : ℕ) (size : Sized w.ranked) (few : held ≤ 64) where
  abbrev ranked : List ℕ
  ranked = take held w.ranked

  held_size : length ranked ≡ held
  held_size = length-take-le held w.ranked (omega arith)

  pub slots_filled : {d : List ℕ} {p q : ℕ} → q ≡ p → p + held * 4 ≤ length d
      → Filled d p (entry_rows (entries_held w held)) d (slots_from w held 0) q
  unfolding slots_from entries_from
  slots_filled e h = filled e (omega (arith, length_rows (each (entry_from w.best w.next w.places) ranked), length-each (entry_from w.best w.next w.places) ranked, held_size))

  pub slots_next : (k : ℕ) {row : List ℕ} → k < length ranked → row ≡ entry_row (entry_from w.best w.next w.places (at ranked k))
      → Next (slots_from w held k) row (slots_from w held (k + 1))
  unfolding slots_from
  slots_next k h e = record { is = rw (e, add-one k, drop-cons ranked k 0 h) }

  pub slots_past : (k : ℕ) → length ranked ≤ k → slots_from w held k ≡ []
  unfolding slots_from
  slots_past k h = rw (drop_of_length-le ranked {i = k} h)
