-- The words of the index by place: word k of node j's row, word k of the e-th entry of node j; and how many words there are.
-- Assumes nothing.
use mathlib.Core.Path.{◌≡◌, refl, ap, ◌∙◌}
use mathlib.Core.List.{List, [], ◌∷◌}
use Prim.Native.Nat.{ℕ, suc, ◌+◌, ◌*◌, ◌≤◌, ◌<◌}
use native.Mathlib.Omega.{arith}
use lib.ListN.{length, take, get_or}
use Rattle.base.specs.Lists.{up_to, each, each_list, total}
use Rattle.base.proofs.Members.{length-each, each_same}
use Rattle.base.proofs.Runs.{length_from, get_or_from}
use Rattle.base.proofs.Sums.{total-suc, total-take}
use Rattle.base.proofs.Rows.{length_parts, get_or_parts, length_rows, get_or_rows}
use Rattle.base.proofs.Sorts.{length_sort}
use Rattle.rules.specs.declared.Grid.{Grid}
use Rattle.rules.specs.Tables.{Table}
use Rattle.rules.specs.Indexes.{beginnings, node_count, node_row, node_words, regions_under, Entry, entry_of, ahead, entries_of, entry_row, entry_words, entry_count}

length_entries : (l : List Entry) → length (each_list entry_row l) ≡ length l * 4
length_entries = length_rows entry_row 4 (λ e. refl)

module _ (t : Table) (g : Grid) where
  -- ---- nodes

  pub nodes_length : length (node_words t g) ≡ node_count t * 8
  nodes_length = length_rows (node_row t g) 8 (λ j. refl) (up_to (node_count t)) ∙ ap (λ (n : ℕ). n * 8) (length_from 0 (node_count t))

  pub node_word_lem : (j k : ℕ) → j < node_count t → k < 8 → get_or (node_words t g) (j * 8 + k) 0 ≡ get_or (node_row t g j) k 0
  node_word_lem j k h l =
      let n : j < length (up_to (node_count t)) = rw (length_from 0 (node_count t)) h in
      let z : get_or (up_to (node_count t)) j 0 ≡ j = omega (arith, get_or_from 0 (node_count t) j 0 h) in
      get_or_rows (node_row t g) 8 (λ j. refl) 0 0 (up_to (node_count t)) j k n l ∙ ap (λ (m : ℕ). get_or (node_row t g m) k 0) z

  -- ---- entries

  pub entries_length : (p : List ℕ) → length (entries_of t g p) ≡ length (regions_under t g p)
  entries_length p = length_sort ahead (each (entry_of t g p) (regions_under t g p)) ∙ length-each (entry_of t g p) (regions_under t g p)

  -- as entry_count counts them, and as the last word of a node's row does
  pub entries_counted : (l : List (List ℕ)) → total (each (λ q. length (entries_of t g q)) l) ≡ total (each (λ q. length (regions_under t g q)) l)
  entries_counted l = ap total (each_same (λ q. length (entries_of t g q)) (λ q. length (regions_under t g q)) l (λ q h. entries_length q))

  entries_total : (l : List (List ℕ)) → total (each (λ q. length (each_list entry_row (entries_of t g q))) l) ≡ total (each (λ q. length (regions_under t g q)) l) * 4
  entries_total [] = refl
  entries_total (q ∷ l) = omega (arith, entries_total l, length_entries (entries_of t g q), entries_length q)

  pub entry_words_length : length (entry_words t g) ≡ entry_count t g * 4
  entry_words_length =
      omega (arith, length_parts (λ q. each_list entry_row (entries_of t g q)) (beginnings t), entries_total (beginnings t), entries_counted (beginnings t))

  -- a node's entries end within the entry words
  pub entries_fit : (j : ℕ) → j < node_count t → get_or (node_row t g j) 7 0 + length (entries_of t g (get_or (beginnings t) j [])) ≤ entry_count t g
  entries_fit j h =
      let f : List ℕ → ℕ = λ q. length (regions_under t g q) in
      let B = beginnings t in
      omega (arith, entries_length (get_or B j []), entries_counted B, total-suc f [] B j h, total-take f B (suc j))

  -- the words of node j's e-th entry stand at (its row's last word + e) * 4
  pub entry_word_lem : (d : Entry) (j e k : ℕ) → j < node_count t → e < length (regions_under t g (get_or (beginnings t) j [])) → k < 4
      → get_or (entry_words t g) ((get_or (node_row t g j) 7 0 + e) * 4 + k) 0 ≡ get_or (entry_row (get_or (entries_of t g (get_or (beginnings t) j [])) e d)) k 0
  entry_word_lem d j e k h u v =
      let p = get_or (beginnings t) j [] in
      let s = total (each (λ q. length (regions_under t g q)) (take j (beginnings t))) in
      let w = total (each (λ q. length (each_list entry_row (entries_of t g q))) (take j (beginnings t))) in
      let z : (s + e) * 4 + k ≡ w + (e * 4 + k) = omega (arith, entries_total (take j (beginnings t))) in
      let here : e * 4 + k < length (each_list entry_row (entries_of t g p)) = omega (arith, length_entries (entries_of t g p), entries_length p) in
      ap (λ (m : ℕ). get_or (entry_words t g) m 0) z
      ∙ get_or_parts (λ q. each_list entry_row (entries_of t g q)) [] 0 (beginnings t) j (e * 4 + k) h here
      ∙ get_or_rows entry_row 4 (λ e. refl) d 0 (entries_of t g p) e k (omega (arith, entries_length p)) v
