-- One entry's words: the ways that it is read; and that on the words that building writes a node's entries are the rules'.
-- Assumes nothing.
use mathlib.Core.Path.{◌≡◌, sym, ap, ◌∙◌}
use mathlib.Core.Bool.{true, ◌&&◌}
use mathlib.Core.List.{List, [], ◌∷◌}
use Prim.Native.Nat.{ℕ, suc, ◌+◌, ◌*◌, ◌/◌, ◌≤◌, ◌<◌}
use native.Mathlib.Omega.{arith}
use lib.Dec.{ltb}
use lib.ListN.{length, get_or}
use borrow.Table.Steps.{cases}
use borrow.Author.Tests.{lt-ltb, le-leb, ltb-true, leb-true}
use Rattle.std.specs.Prelude.{Result, Ok}
use Rattle.base.specs.Lists.{each}
use Rattle.base.proofs.Tests.{and_parts}
use Rattle.base.proofs.Members.{length-each, get_or-each, get_or_in}
use Rattle.base.proofs.Begins.{begins-length, begins-at}
use Rattle.rules.specs.declared.Broken.{Broken}
use Rattle.rules.specs.declared.Grid.{Grid}
use Rattle.rules.specs.Places.{regions}
use Rattle.rules.specs.Tables.{Table, stands}
use Rattle.rules.specs.Indexes.{Index, node_count, node_row, entries_of, entry_row, entry_words}
use Rattle.rules.specs.Indexes as rules
use Rattle.rules.proofs.Lawful.{SetParts}
use Rattle.meaning.specs.Trees.{text_of}
use Rattle.meaning.specs.Meaning.{no_entry, entry_at}
use Rattle.meaning.proofs.Words.{entries_length, entry_words_length, entries_fit, entry_word_lem}
use Rattle.meaning.proofs.Entries.{entries_mean, entry_own}
use Rattle.walk.specs.declared.entry.Entry.{Entry}
use Rattle.walk.specs.Entries.{entry_word, entry_in, entry_within, entry_read, as_read, SpelledFrom}

-- ---- on any words

module _ (places : ℕ) (e : Entry) where
  pub within_facts : entry_within places e ≡ true → (e.region < 64) × (e.past.0 ≤ places)
  unfolding entry_within
  within_facts q = let w = and_parts _ _ q in (ltb-true _ _ w.0, leb-true _ _ w.1)

  pub within_by : e.region < 64 → e.past.0 ≤ places → entry_within places e ≡ true
  unfolding entry_within
  within_by h k = rw (lt-ltb _ _ h, le-leb _ _ k)

pub entry_is : (words : List ℕ) (places number : ℕ) → number < length words / 4 → entry_within places (entry_in words number) ≡ true → Ok (entry_in words number) ≡ entry_read words places number
unfolding entry_read
entry_is words places number there h = rw (lt-ltb _ _ there, h)

-- one that was read is there, and within the places
module _ (words : List ℕ) (places number : ℕ) (r : Result Entry Broken) (x : Entry) (read : r ≡ entry_read words places number) (e : r ≡ Ok x) where
  read_facts : (ltb number (length words / 4) ≡ true) × (entry_within places x ≡ true) × (entry_in words number ≡ x)
  unfolding entry_read
  read_facts =
      let it = ltb number (length words / 4) && entry_within places (entry_in words number) in
      cases it
      (λ q. let same : entry_in words number ≡ x = cc (rw q at read) in let w = and_parts _ _ q in (w.0, rw same at w.1, same))
      (λ q. let z : ◌≡◌ {A = ℕ} 0 1 = cc (rw q at read) in absurd (omega arith))

  pub read_there : number < length words / 4
  read_there = ltb-true _ _ read_facts.0

  pub read_is : entry_in words number ≡ x
  read_is = read_facts.2

  pub read_within : entry_within places x ≡ true
  read_within = read_facts.1

  pub read_region : x.region < 64
  read_region = (within_facts places x read_within).0

-- entries that are read one by one stand one after the other
spelled_by : (words : List ℕ) (places : ℕ) (d : Entry) (es : List Entry) (number : ℕ) → ((i : ℕ) → i < length es → entry_read words places (number + i) ≡ Ok (get_or es i d))
    → SpelledFrom words places number es
spelled_by words places d [] number h = tt
spelled_by words places d (e ∷ es) number h =
    let here : number + 0 ≡ number = omega arith in (
      ap (entry_read words places) (sym here) ∙ h 0 (omega arith),
      spelled_by words places d es (suc number) (λ i k. let next : suc number + i ≡ number + suc i = omega arith in ap (entry_read words places) next ∙ h (suc i) (omega arith)),
    )

-- ---- on the words that building writes

-- four words that are an entry's
same_entry : (e : rules.Entry) (r s f p : ℕ) → r ≡ e.region → s ≡ e.score → f ≡ e.first → p ≡ e.past
    → ◌≡◌ {A = Entry} (record { region = r; score = s; first = record { 0 = f }; past = record { 0 = p } }) (as_read e)
same_entry e r s f p a b c d = rw (a, b, c, d)

module _ (t : Table) (g : Grid) (x : Index) (s : SetParts t g x) (j : ℕ) (inside : j < node_count t) where
  abbrev listed : List rules.Entry
  listed = entries_of t g (text_of t j)

  abbrev first : ℕ
  first = get_or (node_row t g j) 7 0

  word : (i k : ℕ) → i < length listed → k < 4 → entry_word x.entries (first + i) k ≡ get_or (entry_row (entry_at t g (text_of t j) i)) k 0
  word i k h l =
      begins-at (entry_words t g) x.entries ((first + i) * 4 + k) 0 s.entries (omega (arith, entries_fit t g j inside, entry_words_length t g))
      ∙ entry_word_lem t g no_entry j i k inside (omega (arith, entries_length t g (text_of t j))) l

  below_64 : (i : ℕ) → i < length listed → (entry_at t g (text_of t j) i).region < 64
  unfolding regions
  below_64 i h = (entry_own t g s.table (text_of t j) (entry_at t g (text_of t j) i) (get_or_in no_entry listed i h)).small

  entry-spelled : (places : ℕ) → stands t ≤ places → (i : ℕ) → i < length listed → entry_read x.entries places (first + i) ≡ Ok (as_read (entry_at t g (text_of t j) i))
  entry-spelled places most i h =
      let w = word i in
      let e = entry_at t g (text_of t j) i in
      sym (entry_is x.entries places (first + i)
      (omega (arith, entries_fit t g j inside, entry_words_length t g, begins-length (entry_words t g) x.entries s.entries))
      (within_by places (entry_in x.entries (first + i)) (omega (arith, w 0 h (omega arith), below_64 i h))
      (omega (arith, w 3 h (omega arith), ((entries_mean t g s.table (text_of t j)).bounds i h).1))))
      ∙ ap Ok (same_entry e _ _ _ _ (w 0 h (omega arith)) (w 1 h (omega arith)) (w 2 h (omega arith)) (w 3 h (omega arith)))

  pub entries_spelled : (places : ℕ) → stands t ≤ places → SpelledFrom x.entries places first (each as_read listed)
  entries_spelled places most =
      spelled_by x.entries places (as_read no_entry) (each as_read listed) first
      (λ i h.
      let k : i < length listed = omega (arith, length-each as_read listed) in
      entry-spelled places most i k ∙ ap Ok (sym (get_or-each as_read listed i no_entry (as_read no_entry) k)))
