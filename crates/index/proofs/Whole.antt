-- The walk through the nodes meets the beginnings in their order, so the words that it makes are those of the rules.
-- Assumes nothing.
use mathlib.Core.Path.{◌≡◌, refl, sym, ap, ◌∙◌, subst, ap₂}
use mathlib.Core.Logic.{◌⊎◌, inl, inr}
use mathlib.Core.Bool.{cond, not}
use mathlib.Core.List.{List, [], ◌∷◌, ◌++◌}
use Prim.Native.Nat.{ℕ, suc, ◌-◌, ◌<◌}
use native.Mathlib.Omega.{arith}
use lib.ListN.{length, take, drop, get_or, length-drop, drop_of_length-le}
use lib.Seq.{drop-cons}
use borrow.Table.Steps.{cases}
use Rattle.base.specs.Lists.{from_on, up_to, keep, each, each_list, total, In}
use Rattle.base.specs.Bits.{word_of}
use Rattle.base.proofs.Members.{length-each, in-each, in-each_list, get_or-each, get_or_in, each_same, each-each, each-each_list, each_list-each, each_list_same, drop_head}
use Rattle.base.proofs.Runs.{in_from}
use Rattle.rules.specs.declared.Grid.{Grid}
use Rattle.rules.specs.Tables.{Table, stands, name_of, LawfulTable}
use Rattle.rules.specs.Indexes.{new_at, beginnings, node_count, number_in, occupied, regions_under, repeats, record_row, bit_words, record_count, entries_of, entry_row, node_row, node_words, entry_words, entry_count}
use Rattle.meaning.specs.Adding.{shared_at}
use Rattle.meaning.specs.Trees.{text_of}
use Rattle.meaning.proofs.Tree.{number_at}
use Rattle.meaning.proofs.Tables.{beginnings-tree}
use Rattle.meaning.proofs.Adding.{new_takes}
use Rattle.meaning.proofs.Records.{bit_words_length}
use Rattle.meaning.proofs.Words.{entries_length}
use Rattle.std.specs.Int.{from_bool}
use Rattle.node.specs.Columns.{IndexColumns, at, end_of}
use Rattle.node.specs.Visits.{Visit, new_visits}
use Rattle.node.specs.Rows.{bits_at, entries_at, row_at}
use Rattle.words.specs.Words.{Trail, root_trail, served_at, trail_past, row_of, own_record, rows_from, records_from, visits_of, node_count_of, entry_count_of, record_count_of, node_words_of, entry_words_of, bit_words_of}
use Rattle.node.proofs.Gathering.{low_is, high_is}
use Rattle.words.proofs.Walks.{visits_all, entries_held_at, records_length}
use Rattle.index.specs.Columns.{lengths_of, shared_of, table_columns}
use Rattle.index.proofs.ByStand.{lengths_length, lengths_at, shared_at_lem, columns_lawful}
use Rattle.index.proofs.Numbers.{Meant, meant-root, meant_new}
use Rattle.index.proofs.Trails.{Along, along_root, meant_for, number_above, served_meant, along_more}
use Rattle.index.proofs.Held.{bits_here, entries_here}

abbrev root : Visit
root = record { stand = 0; length = 0 }

module _ (t : Table) (g : Grid) (l : LawfulTable t g) where
  abbrev C : IndexColumns
  C = table_columns t g

  abbrev B : List (List ℕ)
  B = beginnings t

  abbrev text_at : Visit → List ℕ
  text_at v = take v.length (name_of t v.stand)

  -- ---- the visits are the beginnings

  visits_are : visits_of C ≡ root ∷ each_list (new_visits (lengths_of t) (shared_of t)) (up_to (stands t))
  visits_are = rw (visits_all (lengths_of t) (shared_of t) (columns_lawful t g l).grows, lengths_length t)

  new_texts : (i : ℕ) → i < stands t → each text_at (new_visits (lengths_of t) (shared_of t) i) ≡ new_at t i
  new_texts i h =
      let c = shared_at_lem t i h in
      let n : suc (at (lengths_of t) i) - suc (at (shared_of t) i) ≡ length (name_of t i) - shared_at t i = omega (arith, c, lengths_at t i h) in
      rw (each-each, n, c) (sym (new_takes t i))

  texts : each text_at (visits_of C) ≡ B
  unfolding beginnings
  texts =
      let new = new_visits (lengths_of t) (shared_of t) in
      rw (visits_are, each-each_list text_at new (up_to (stands t)), each_list_same (λ i. each text_at (new i)) (new_at t) (up_to (stands t)) (λ i u. new_texts i (omega (arith, in_from 0 (stands t) i u))))

  pub node_count_lem : node_count_of C ≡ node_count t
  node_count_lem = sym (length-each text_at (visits_of C)) ∙ ap length texts

  -- ---- each visit means its text

  meant : (v : Visit) → In v (visits_of C) → Meant t v.stand v.length (text_at v)
  meant v u = step (subst (In v) visits_are u)
    where
      step : (v ≡ root) ⊎ In v (each_list (new_visits (lengths_of t) (shared_of t)) (up_to (stands t))) → Meant t v.stand v.length (text_at v)
      step (inl e) = rw e (meant-root t g l)
      step (inr w) =
          let s = in-each_list (new_visits (lengths_of t) (shared_of t)) (up_to (stands t)) v w in
          let i = s.0 in
          let h : i < stands t = omega (arith, in_from 0 (stands t) i s.1) in
          let r = in-each (λ k. record { stand = i; length = k }) (from_on (suc (at (shared_of t) i)) (suc (at (lengths_of t) i) - suc (at (shared_of t) i))) v s.2 in
          let b = in_from (suc (at (shared_of t) i)) (suc (at (lengths_of t) i) - suc (at (shared_of t) i)) r.0 r.1 in
          rw r.2 (meant_new t g l i r.0 h (omega (arith, shared_at_lem t i h)) (omega (arith, lengths_at t i h)))

  entries_at_lem : (v : Visit) → In v (visits_of C) → entries_at C v ≡ entries_of t g (text_at v)
  unfolding entries_at
  entries_at_lem v u = let m = meant v u in entries_here g t (text_at v) v.stand (end_of (shared_of t) v.stand v.length) m.after m.within m.run

  -- ---- the entries

  pub entry_words_lem : entry_words_of C ≡ entry_words t g
  entry_words_lem = rw (← texts, each_list-each) (each_list_same _ _ (visits_of C) (λ v u. ap (each_list entry_row) (entries_at_lem v u)))

  pub entry_count_lem : entry_count_of C ≡ entry_count t g
  entry_count_lem = rw (← texts, each-each) (ap total (each_same _ _ (visits_of C) (λ v u. sym (entries_held_at C v) ∙ ap length (entries_at_lem v u))))

  -- ---- the nodes and their records, with the trail of each

  -- the visit at place j is node j's
  module _ (j : ℕ) (v : Visit) (vs : List Visit) (e : drop j (visits_of C) ≡ v ∷ vs) where
    abbrev p : List ℕ
    p = text_of t j

    met : (j < length (visits_of C)) × (get_or (visits_of C) j root ≡ v) × (drop (suc j) (visits_of C) ≡ vs)
    met = drop_head root v (visits_of C) vs j e

    there : In v (visits_of C)
    there = subst (λ (x : Visit). In x (visits_of C)) met.1 (get_or_in root (visits_of C) j met.0)

    inside : j < node_count t
    inside = omega (arith, met.0, node_count_lem)

    text : text_at v ≡ p
    text = sym (ap (λ (b : List (List ℕ)). get_or b j []) (sym texts) ∙ get_or-each text_at (visits_of C) j root [] met.0 ∙ ap text_at met.1)

    here : Meant t v.stand v.length p
    here = subst (Meant t v.stand v.length) text (meant v there)

    bits : bits_at C v ≡ word_of (occupied t g p) 0 64
    unfolding bits_at
    bits = bits_here g t p v.stand (end_of (shared_of t) v.stand v.length) here.after here.within here.run

    module _ (a : Trail) (s : Along t g l j a) where
      further : suc j < node_count t → Along t g l (suc j) (trail_past C a v)
      further =
          along_more t g l j inside a s v here.size bits
          (ap length (entries_at_lem v there) ∙ entries_length t g (text_at v) ∙ ap (λ (q : List ℕ). length (regions_under t g q)) text)

      served : served_at C a v ≡ meant_for t g l p
      served = served_meant t g l j inside a s v here.size bits

      row-at : row_of C a v ≡ node_row t g j
      unfolding row_at
      row-at =
          let m = here in
          let number : number_in p B ≡ j = number_at B (beginnings-tree t l.ordered).sorted j inside in
          let end = rw number at m.end in
          let mark : from_bool (not (not (repeats t g p))) ≡ cond (repeats t g p) 1 0 = cases (repeats t g p) (λ q. rw q) (λ q. rw q) in
          rw (number_above t g l j inside a s v m.size bits, served, s.number, s.entries, mark) (cc (m.last, m.first, m.past, end))

      record_at : own_record C a v ≡ cond (repeats t g p) [] (record_row t g p)
      record_at =
          rw (served, bits)
          (cases (repeats t g p) (λ q. rw q) (λ q. rw q (ap₂ (λ (x y : ℕ). x ∷ y ∷ []) (low_is _ (occupied t g p) refl) (high_is _ (occupied t g p) refl))))

  rows_from_lem : (j : ℕ) (a : Trail) (vs : List Visit) → (j < node_count t → Along t g l j a) → drop j (visits_of C) ≡ vs → rows_from C a vs ≡ each_list (node_row t g) (from_on j (length vs))
  rows_from_lem j a [] s e = refl
  rows_from_lem j a (v ∷ vs) s e =
      let r = s (inside j v vs e) in
      ap₂ ◌++◌ (row-at j v vs e a r) (rows_from_lem (suc j) (trail_past C a v) vs (further j v vs e a r) (met j v vs e).2)

  pub node_words_lem : node_words_of C ≡ node_words t g
  node_words_lem = rows_from_lem 0 root_trail (visits_of C) (λ h. along_root t g l) refl ∙ ap (λ (n : ℕ). each_list (node_row t g) (up_to n)) node_count_lem

  records_from_lem : (j : ℕ) (a : Trail) (vs : List Visit) → (j < node_count t → Along t g l j a) → drop j (visits_of C) ≡ vs
      → records_from C a vs ≡ each_list (record_row t g) (keep (λ q. not (repeats t g q)) (drop j B))
  records_from_lem j a [] s e = rw (drop_of_length-le B {i = j} (omega (arith, ap length e, length-drop j (visits_of C), node_count_lem)))
  records_from_lem j a (v ∷ vs) s e =
      let r = s (inside j v vs e) in
      let rest = records_from_lem (suc j) (trail_past C a v) vs (further j v vs e a r) (met j v vs e).2 in
      rw (record_at j v vs e a r, rest, drop-cons B j [] (inside j v vs e)) (cases (repeats t g (text_of t j)) (λ q. rw q) (λ q. rw q))

  pub bit_words_lem : bit_words_of C ≡ bit_words t g
  bit_words_lem = records_from_lem 0 root_trail (visits_of C) (λ h. along_root t g l) refl

  pub record_count_lem : record_count_of C ≡ record_count t g
  record_count_lem = omega (arith, ap length bit_words_lem, records_length C root_trail (visits_of C), bit_words_length t g)
