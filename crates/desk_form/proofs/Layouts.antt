-- The stands laid out as columns, stand by stand: Laying is the invariant of the loop that reads and lays them.
-- Assumes nothing.
use mathlib.Core.Path.{◌≡◌, refl, sym, ap, ◌∙◌, ap₂}
use mathlib.Core.List.{List, [], ◌∷◌, ◌++◌, append_assoc, append-nil}
use Rattle.std.specs.Prelude.{Some, None}
use Prim.Native.Nat.{ℕ, suc, ◌+◌, ◌-◌, ◌≤◌, ◌<◌}
use native.Mathlib.Omega.{arith}
use lib.IntN.{ℤ}
use lib.ListN.{length, drop, get_or, set, length-append, length-drop, take-append-drop}
use lib.Seq.{drop-set-lt, drop-cons, set_at, take-append_seam, drop-append-add, drop-drop, append_snoc}
use Rattle.base.specs.Lists.{each}
use Rattle.base.proofs.Members.{length-each, each_append, each_list-append}
use Rattle.rules.specs.Tables.{Table, table_of}
use Rattle.lines.specs.Writing.{line}
use Rattle.desk_form.specs.Form.{StandLines, stand_text}
use Rattle.desk_form.specs.Columns.{joined_names, starts_from, table_from, laid_over, laid_table}
use Rattle.lines.specs.Reads.{Got, got, onward}
use Rattle.desk_form.specs.Reads.{stand_lines, all_stands}
use Rattle.lines.specs.Says.{part, Reached}
use Rattle.lines.specs.Puts.{Puts}
use Rattle.desk_form.specs.Says.{StandReached, RoomFor, StandsReached}
use Rattle.desk_form.proofs.Inputs.{stand_law}

module _ {A : Type 0} where
  -- one more, right behind
  laid_store : (w room : List A) (x : A) → length w < length room → set (laid_over w room) (length w) x ≡ laid_over (w ++ (x ∷ [])) room
  laid_store w room x h =
      let n : length (w ++ (x ∷ [])) ≡ suc (length w) = length-append w (x ∷ []) ∙ omega arith in
      rw (drop-cons room (length w) x h, n) (set_at w (get_or room (length w) x) (drop (suc (length w)) room) x (length w) refl ∙ sym (append_snoc w x (drop (suc (length w)) room)))

-- bytes put right behind
laid_put : (w room s text : List ℕ) (r : ℕ) → Puts s (laid_over w room) (length w) text r → text ≡ laid_over (w ++ s) room
laid_put w room s text r p =
    sym (take-append-drop r text)
    ∙ ap₂ ◌++◌ (p.front ∙ ap (λ m. m ++ s) (take-append_seam w (drop (length w) room))) (p.rest ∙ rw (p.next, length-append w s) (drop-append-add w (drop (length w) room) (length s) ∙ drop-drop (length s) (length w) room))

-- a column with one more stand
column : {A : Type 0} (f : StandLines → A) (stands : List StandLines) (s : StandLines) (room : List A) → length stands < length room
    → set (laid_over (each f stands) room) (length stands) (f s) ≡ laid_over (each f (stands ++ (s ∷ []))) room
column f stands s room h = rw (each_append f stands (s ∷ []), ← length-each f stands) (laid_store (each f stands) room (f s) (rw (length-each f stands) h))

names_snoc : (stands : List StandLines) (s : StandLines) → joined_names (stands ++ (s ∷ [])) ≡ joined_names stands ++ s.name
names_snoc stands s = each_list-append (λ s. s.name) stands (s ∷ []) ∙ ap (λ m. joined_names stands ++ m) (append-nil s.name)

pub length_starts : (at : ℕ) (stands : List StandLines) → length (starts_from at stands) ≡ suc (length stands)
unfolding starts_from
length_starts at [] = refl
length_starts at (s ∷ stands) = ap suc (length_starts (at + length s.name) stands)

starts_snoc : (at : ℕ) (stands : List StandLines) (s : StandLines)
    → starts_from at (stands ++ (s ∷ [])) ≡ starts_from at stands ++ ((at + length (joined_names stands) + length s.name) ∷ [])
unfolding starts_from
starts_snoc at [] s = let e : at + length s.name ≡ at + 0 + length s.name = omega arith in rw e
starts_snoc at (t ∷ stands) s =
    let e : at + length t.name + length (joined_names stands) + length s.name ≡ at + length (t.name ++ joined_names stands) + length s.name = omega (arith, length-append t.name (joined_names stands)) in
    ap (λ m. at ∷ m) (starts_snoc (at + length t.name) stands s ∙ ap (λ k. starts_from (at + length t.name) stands ++ (k ∷ [])) e)

pub same_table : {text text' starts starts' score score' : List ℕ} {east east' north north' : List ℤ} → text ≡ text' → starts ≡ starts' → east ≡ east'
    → north ≡ north' → score ≡ score' → table_of text starts east north score ≡ table_of text' starts' east' north' score'
same_table a b c d e = rw (a, b, c, d, e)

-- the whole table with one more stand
module _ (stands : List StandLines) (s : StandLines) (rooms now : Table) (is : now ≡ laid_table (table_from stands) rooms) where
  text_more : (text : List ℕ) (r : ℕ) → Puts s.name now.text (length (joined_names stands)) text r → text ≡ laid_over (joined_names (stands ++ (s ∷ []))) rooms.text
  unfolding laid_table table_from
  text_more text r p = rw (names_snoc stands s) (laid_put (joined_names stands) rooms.text s.name text r (rw is at p))

  starts_more : suc (length stands) < length rooms.starts
      → set now.starts (suc (length stands)) (length (joined_names stands) + length s.name) ≡ laid_over (starts_from 0 (stands ++ (s ∷ []))) rooms.starts
  unfolding laid_table table_from
  starts_more h =
      let e : length (joined_names stands) + length s.name ≡ 0 + length (joined_names stands) + length s.name = omega arith in
      rw (is, starts_snoc 0 stands s, e, ← length_starts 0 stands) (laid_store (starts_from 0 stands) rooms.starts _ (rw (length_starts 0 stands) h))

  table_more : (text : List ℕ) (bytes r i : ℕ) → Puts s.name now.text bytes text r → bytes ≡ length (joined_names stands) → i ≡ length stands
      → i + 1 < length rooms.starts → i < length rooms.east → i < length rooms.north → i < length rooms.score
      → table_of text (set now.starts (i + 1) r) (set now.east i s.east) (set now.north i s.north) (set now.score i s.score) ≡ laid_table (table_from (stands ++ (s ∷ []))) rooms
  unfolding laid_table table_from
  table_more text bytes r i p b c starts east north score =
      let at : i + 1 ≡ suc (length stands) = omega arith in
      same_table
      (text_more text r (rw b at p))
      (rw (p.next, b, at) (starts_more (omega arith)))
      (rw (c, is) (column (λ s. s.east) stands s rooms.east (omega arith)))
      (rw (c, is) (column (λ s. s.north) stands s rooms.north (omega arith)))
      (rw (c, is) (column (λ s. s.score) stands s rooms.score (omega arith)))

-- the parts of a table have room for as many stands as an input has at most
pub record Rooms (t : Table) : Type 0 where
  pub starts : 64 < length t.starts
  pub east : 64 ≤ length t.east
  pub north : 64 ≤ length t.north
  pub score : 64 ≤ length t.score

-- the readers of the stands that are left, behind those that were read
pub before : List StandLines → List StandLines → List ℕ → Got (List StandLines)
before stands more = got (stands ++ more)

pub record Laying (l : List ℕ) (at n : ℕ) (rooms now : Table) (bytes next i : ℕ) : Type 0 where
  pub room : Rooms rooms
  pub stands : List StandLines
  pub count : length stands ≡ i
  pub few : i ≤ n
  pub within : next ≤ length l
  pub packed : bytes ≤ next
  pub counted : bytes ≡ length (joined_names stands)
  pub rest : all_stands n (drop at l) ≡ onward (all_stands (n - i) (drop next l)) (before stands)
  pub is : now ≡ laid_table (table_from stands) rooms

onward_none : (x : Got (List StandLines)) → x ≡ onward x (before [])
unfolding onward before
onward_none (Some (more, rest)) = refl
onward_none None = refl

onward_more : (x : Got (List StandLines)) (stands : List StandLines) (s : StandLines)
    → onward (onward x (λ more. got (s ∷ more))) (before stands) ≡ onward x (before (stands ++ (s ∷ [])))
unfolding onward before
onward_more (Some (more, rest)) stands s = ap (λ m. got m rest) (sym (append_assoc stands (s ∷ []) more))
onward_more None stands s = refl

module _ (l : List ℕ) (at n : ℕ) (rooms : Table) where
  -- one stand's turn
  turn : (x : Got StandLines) (i next : ℕ) (stands : List StandLines) → i < n → stand_lines (drop next l) ≡ x
      → onward (all_stands (n - i) (drop next l)) (before stands) ≡ onward (onward x (λ s. λ m. onward (all_stands (n - (i + 1)) m) (λ more. got (s ∷ more)))) (before stands)
  unfolding all_stands
  turn x i next stands h e = let k : n - i ≡ suc (n - (i + 1)) = omega arith in rw (k, e)

  pub no_stand : (now : Table) (bytes next i : ℕ) → i < n → stand_lines (drop next l) ≡ None → Laying l at n rooms now bytes next i → all_stands n (drop at l) ≡ None
  unfolding onward
  no_stand now bytes next i h e s = s.rest ∙ turn None i next s.stands h e

  pub all_laid : (now : Table) (bytes next i : ℕ) → n ≤ i → Laying l at n rooms now bytes next i → StandsReached l (all_stands n (drop at l)) rooms now bytes next
  unfolding onward all_stands before
  all_laid now bytes next i h s =
      let z : n - i ≡ 0 = omega arith in
      record { stands = s.stands; reached = record { within = s.within; is = s.rest ∙ rw z (ap (λ m. got m (drop next l)) (append-nil s.stands)) }; counted = s.counted; laid = s.is }

  -- a name is no longer than its stand's lines
  name_fits : (next behind : ℕ) (s : StandLines) → next ≤ length l → Reached l (stand_lines (drop next l)) s behind → next + length s.name ≤ behind
  unfolding stand_text line
  name_fits next behind s h r =
      let e = ap length (stand_law.sound (drop next l) s (drop behind l) r.is).1 in
      omega (arith, simp (length-append, length-drop) at e, r.within)

  pub lay_none : RoomFor l at n → Rooms rooms → rooms.starts ≡ laid_over (0 ∷ []) rooms.starts → Laying l at n rooms rooms 0 at 0
  unfolding before onward laid_table table_from starts_from
  lay_none r room z =
      record {
        room = room;
        stands = [];
        count = refl;
        few = omega arith;
        within = r.within;
        packed = omega arith;
        counted = refl;
        rest = let e : n - 0 ≡ n = omega arith in rw e (onward_none (all_stands n (drop at l)));
        is = same_table refl z refl refl refl;
      }

  module _ (now : Table) (bytes next i keyed from past : ℕ) (x y : ℤ) (value behind : ℕ) (f : StandReached l keyed (stand_lines (drop next l)) from past x y value behind) (s : Laying l at n rooms now bytes next i) where
    stand : StandLines
    stand = record { name = part from past l; east = x; north = y; score = value }

    packs : bytes + length (part from past l) ≤ behind
    packs = omega (arith, name_fits next behind (record { name = part from past l; east = x; north = y; score = value }) s.within f.reached, s.packed)

    pub lay_one : RoomFor l at n → i < n → (text starts : List ℕ) (east north : List ℤ) (score : List ℕ) (r : ℕ)
        → Puts (part from past l) now.text bytes text r → starts ≡ set now.starts (i + 1) r → east ≡ set now.east i x
        → north ≡ set now.north i y → score ≡ set now.score i value
        → Laying l at n rooms (table_of text starts east north score) r behind (i + 1)
    unfolding onward stand
    lay_one r h text starts east north score end p b c d e =
        let names : length (joined_names (s.stands ++ (stand ∷ []))) ≡ length (joined_names s.stands) + length (part from past l) = ap length (names_snoc s.stands stand) ∙ length-append (joined_names s.stands) (part from past l) in
        record {
          room = s.room;
          stands = s.stands ++ (stand ∷ []);
          count = length-append s.stands (stand ∷ []) ∙ ap (λ m. m + 1) s.count;
          few = omega arith;
          within = f.reached.within;
          packed = omega (arith, packs, p.next);
          counted = omega (arith, names, p.next, s.counted);
          rest = s.rest ∙ turn _ i next s.stands h f.reached.is ∙ onward_more (all_stands (n - (i + 1)) (drop behind l)) s.stands stand;
          is = same_table refl b c d e ∙ table_more s.stands stand rooms now s.is text bytes end i p s.counted (sym s.count) (omega (arith, r.few, s.room.starts)) (omega (arith, r.few, s.room.east)) (omega (arith, r.few, s.room.north)) (omega (arith, r.few, s.room.score));
        }

-- the first start is stored before the loop
pub first_start : (s : List ℕ) → 0 < length s → set s 0 0 ≡ laid_over (0 ∷ []) (set s 0 0)
first_start [] h = absurd (omega arith)
first_start (x ∷ s) h = refl

-- and is part of what is laid
over_first : (w s : List ℕ) → 0 < length w → laid_over w (set s 0 0) ≡ laid_over w s
over_first w s h = ap (λ m. w ++ m) (drop-set-lt (length w) s 0 0 h)

pub from_entry : (l : List ℕ) (f : Got (List StandLines)) (text starts : List ℕ) (east north : List ℤ) (score : List ℕ) (now : Table) (bytes next : ℕ)
    → StandsReached l f (table_of text (set starts 0 0) east north score) now bytes next
    → StandsReached l f (table_of text starts east north score) now bytes next
unfolding laid_table table_from
from_entry l f text starts east north score now bytes next s =
    record {
      stands = s.stands;
      reached = s.reached;
      counted = s.counted;
      laid = s.laid ∙ same_table refl (over_first (starts_from 0 s.stands) starts (omega (arith, length_starts 0 s.stands))) refl refl refl;
    }
