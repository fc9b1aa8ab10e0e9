-- One node: the entries read from its slots are those of its stands, and its row is the model's.
-- Assumes nothing.
use mathlib.Core.Path.{◌≡◌, refl, sym, ap, ◌∙◌}
use mathlib.Core.Logic.{⊎_elim}
use mathlib.Core.Bool.{Bool, not}
use mathlib.Core.List.{List, [], ◌∷◌}
use Prim.Native.Nat.{ℕ, suc, ◌+◌, ◌-◌, ◌*◌, ◌/◌, ◌%◌, ◌^◌, ◌≤◌, ◌<◌}
use native.Mathlib.Omega.{arith}
use native.Mathlib.Nat.{zero-add, add_comm}
use lib.ListN.{length, get_or-eq_default}
use lib.Pow.{low, high}
use Rattle.std.specs.Int.{from_bool}
use Rattle.base.specs.Lists.{up_to, keep, each, sort_by, In}
use Rattle.base.specs.Bits.{word_of, bit_at}
use Rattle.rules.specs.Places.{regions}
use Rattle.rules.specs.Indexes.{ahead}
use Rattle.base.proofs.Tests.{le_or_lt}
use Rattle.base.proofs.Members.{keep_same, keep-in, each_same, length-each}
use Rattle.base.proofs.Runs.{in_from}
use Rattle.base.proofs.Words.{bit-asks, word_split, word_less}
use Rattle.base.proofs.Sorts.{each_sort, length_sort}
use Rattle.node.specs.declared.cursor.Cursor.{Cursor}
use Rattle.node.specs.declared.records.Served.{Served}
use Rattle.node.specs.declared.Work.{Work}
use Rattle.node.specs.Columns.{IndexColumns, at, Grows, Spelt, Ends, end_of, span, grown_of, held_among, regions_among, bits_among, entry_among, entries_among, entry_from, entries_from, by_best, Tallied, Ranks}
use Rattle.node.specs.Visits.{On}
use Rattle.node.specs.Rows.{last_of, past_number, row_with, Tallies, Gathers}
use Rattle.node.proofs.Ends.{length-short, grown_none, grown_first, end_from, end_after}
use Rattle.node.proofs.Placing.{regions_are}

-- ---- its entries

pub entries_held : (region score next s : List ℕ) → length (entries_among region score next s) ≡ length (regions_among region s)
unfolding entries_among
entries_held region score next s = length_sort ahead (each (entry_among region score next s) (regions_among region s)) ∙ length-each (entry_among region score next s) (regions_among region s)

module _ (region score next s places best : List ℕ) (bits : ℕ) (t : Tallied region score next s places best bits) where
  -- the set bits are the regions that hold a stand
  ranked_are : keep (bit_at bits) (up_to regions) ≡ regions_among region s
  ranked_are =
      keep_same (bit_at bits) (held_among region s) (up_to regions)
      (λ r k.
      ap (λ (w : ℕ). bit_at w r) t.word
      ∙ bit-asks (held_among region s) 0 64 r (omega (arith, (in_from 0 regions r k).1, regions_are))
      ∙ ap (held_among region s) (zero-add r))

  entry_is : (r : ℕ) → In r (regions_among region s) → entry_from best next places r ≡ entry_among region score next s r
  unfolding entry_among
  entry_is r k =
      let i = keep-in (held_among region s) (up_to regions) r k in
      let lt : r < 64 = omega (arith, (in_from 0 regions r i.0).1, regions_are) in
      rw (t.most r lt i.1, t.past r lt i.1)

  module _ (ranked : List ℕ) (held : ℕ) (k : Ranks best (keep (bit_at bits) (up_to regions)) ranked held) where
    entries_are : entries_from best next places ranked held ≡ entries_among region score next s
    unfolding entries_from entries_among
    entries_are =
        ap (each (entry_from best next places)) k.order
        ∙ each_sort (entry_from best next places) (by_best best) ahead (keep (bit_at bits) (up_to regions)) (λ x y h k. refl)
        ∙ ap (λ (l : List ℕ). sort_by ahead (each (entry_from best next places) l)) ranked_are
        ∙ ap (sort_by ahead) (each_same (entry_from best next places) (entry_among region score next s) (regions_among region s) entry_is)

    count_is : held ≡ length (entries_among region score next s)
    count_is = k.count ∙ ap length ranked_are ∙ sym (entries_held region score next s)

pub gathered : (t : IndexColumns) (c : Cursor) (w w' : Work) (past bits held : ℕ) (ranked : List ℕ)
    → Ends t.shared c.stand.0 c.length past
    → Tallies t.region t.score c.stand.0 past w w' bits
    → Ranks w'.best (keep (bit_at bits) (up_to regions)) ranked held
    → Gathers t c w (record w' { ranked = ranked }) (record { past = record { 0 = past }; bits = bits; held = held })
gathered columns c w w' past bits held ranked e d k =
    let t = d.tallied in
    let shared = columns.shared in
    let region = columns.region in
    let score = columns.score in
    let next = w.next in
    let i = c.stand.0 in
    let l = c.length in
    let places = w'.places in
    let best = w'.best in
    record {
      past = e.end;
      within = e.within;
      word = t.word ∙ ap (λ (x : ℕ). bits_among region (span i x)) e.end;
      entries = entries_are region score next (span i past) places best bits t ranked held k ∙ ap (λ (x : ℕ). entries_among region score next (span i x)) e.end;
      count = count_is region score next (span i past) places best bits t ranked held k ∙ ap (λ (x : ℕ). length (entries_among region score next (span i x))) e.end;
      few = k.few;
      small = k.small;
      places_size = t.places_size;
      best_size = t.best_size;
      ranked_size = k.size;
      kept = (d.kept.0, d.kept.1);
    }

-- ---- the two words of its bits

module _ (bits : ℕ) (test : ℕ → Bool) (e : bits ≡ word_of test 0 64) where
  halves : bits ≡ word_of test 32 32 * 2 ^ 32 + word_of test 0 32
  halves = e ∙ word_split test 0 32 32 ∙ add_comm (word_of test 0 32) (word_of test 32 32 * 2 ^ 32)

  pub low_is : bits % 4294967296 ≡ word_of test 0 32
  low_is = ap (λ (x : ℕ). x % 4294967296) halves ∙ low (word_of test 32 32) 32 (word_less test 0 32)

  pub high_is : bits / 4294967296 ≡ word_of test 32 32
  high_is = ap (λ (x : ℕ). x / 4294967296) halves ∙ high (word_of test 32 32) 32 (word_less test 0 32)

-- ---- its row

module _ (lengths shared : List ℕ) (g : Grows lengths shared) where
  -- the number past a subtree, by the first stand's longer nodes and what the stands behind it add
  pub past_is : (i l e j : ℕ) → l ≤ at lengths i → (i < length lengths → i < e) → e ≤ length lengths
      → j + 1 + (at lengths i - l) + grown_of lengths shared (suc i) e ≡ past_number lengths shared i l e j
  past_is i l e j h k w =
      ⊎_elim
      (λ (q : length lengths ≤ i).
      let z : at lengths i ≡ 0 = get_or-eq_default lengths 0 q in
      let y : at shared i ≡ 0 = get_or-eq_default shared 0 (omega (arith, g.same)) in
      omega (arith, grown_none lengths shared i e (omega arith), grown_none lengths shared (suc i) e (omega arith)))
      (λ (q : i < length lengths). omega (arith, grown_first lengths shared i e (k q), g.part i q))
      (le_or_lt (length lengths) i)

  module _ (c : Cursor) (o : On lengths shared c) where
    pub length_fits : c.length ≤ 24
    length_fits = omega (arith, o.long, length-short lengths shared g c.stand.0)

    pub spelt-at : (text starts : List ℕ) → Spelt text starts lengths → 0 < c.length → (c.stand.0 < length starts) × (at starts c.stand.0 + c.length ≤ length text)
    spelt-at text starts w h =
        ⊎_elim
        (λ (q : length lengths ≤ c.stand.0). let z : at lengths c.stand.0 ≡ 0 = get_or-eq_default lengths 0 q in absurd (omega (arith, o.long)))
        (λ (q : c.stand.0 < length lengths). (omega (arith, w.begun), omega (arith, w.inside c.stand.0 q, o.long)))
        (le_or_lt (length lengths) c.stand.0)

  pub past_after : (i l e : ℕ) → e ≡ end_of shared i l → (i ≤ e) × (i < length lengths → i < e)
  past_after i l e q = (omega (arith, end_from shared i l), λ h. omega (arith, end_after shared i l (omega (arith, g.same))))

pub row_is : (text starts lengths shared : List ℕ) (j n i l e above last past above' shares : ℕ) (s : Served)
    → above' ≡ above → last ≡ last_of text starts i l → past ≡ past_number lengths shared i l e j → shares ≡ from_bool (not s.own)
    → above' ∷ last ∷ i ∷ e ∷ past ∷ s.number ∷ shares ∷ n ∷ [] ≡ row_with text starts lengths shared above j n i l e s
row_is text starts lengths shared j n i l e above last past above' shares s a b c d = rw (a, b, c, d)
