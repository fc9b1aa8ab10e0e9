-- How large the index of a lawful table gets: a root and at most a node for each byte of the text, an entry for each byte and each stand;
-- so at most 24 nodes and 25 entries for each stand. Entries are counted against the pairs of a node and a stand under it, and those by
-- stands. Assumes nothing.
use mathlib.Core.Path.{◌≡◌, sym, ap, ◌∙◌}
use mathlib.Core.Logic.{⊎_elim}
use mathlib.Core.Bool.{true, false}
use mathlib.Core.List.{List}
use Prim.Native.Nat.{ℕ, zero, suc, ◌+◌, ◌-◌, ◌*◌, ◌≤◌, ◌<◌}
use native.Mathlib.Omega.{arith}
use native.Mathlib.Nat.{lt_of_not-le}
use native.Mathlib.Numerals.{add-one}
use lib.ListN.{length, drop, length-drop}
use lib.Seq.{length-take-le}
use Rattle.base.specs.Lists.{up_to, keep, each, total, begins, In}
use Rattle.base.proofs.Tests.{never, le_or_lt}
use Rattle.base.proofs.Members.{keep-in, length-each, in-each, each_append, some_length}
use Rattle.base.proofs.Runs.{in_from, length_from, up_to-suc}
use Rattle.base.proofs.Begins.{begins-length, begins_both}
use Rattle.base.proofs.Sums.{total-append, total_less, total_most, count_less, count_both}
use Rattle.base.proofs.Rows.{length_parts}
use Rattle.base.proofs.Shuffles.{shuffle_length}
use Rattle.base.proofs.Pairs.{pairs_keep, pairs_each, pairs_weaken, Less, less_few}
use Rattle.rules.specs.declared.Grid.{Grid}
use Rattle.rules.specs.Places.{regions}
use Rattle.rules.specs.Names.{in_order}
use Rattle.rules.specs.Tables.{Table, stands, start_of, name_of, LawfulTable}
use Rattle.rules.specs.Questions.{under, in_region}
use Rattle.rules.specs.Indexes.{beginnings, node_count, occupied, regions_under, entry_count}
use Rattle.rules.proofs.Lawful.{start_inside, name-part}
use Rattle.rules.proofs.Orders.{begins_order}
use Rattle.meaning.specs.Trees.{Sorted}
use Rattle.meaning.specs.Adding.{nodes_before}
use Rattle.meaning.specs.Meaning.{SizesBounded, SizesByText}
use Rattle.meaning.proofs.Tables.{beginnings-tree, root_first, in-under}
use Rattle.meaning.proofs.Few.{records_few, records_lone, records_bound}
use Rattle.meaning.proofs.Words.{nodes_length, entries_counted, entry_words_length}
use Rattle.meaning.proofs.Records.{bit_words_length}
use Rattle.meaning.proofs.Adding.{nodes_step, nodes_all}
use Rattle.meaning.proofs.Regions.{by_region_shuffle}

-- texts strictly in order that begin one name: each is longer than those before, so they are at most one for each length
beginnings_few : (n : List ℕ) (B : List (List ℕ)) → Sorted B → length (keep (λ p. begins p n) B) ≤ suc (length n)
beginnings_few n B s =
    let chosen = keep (λ p. begins p n) B in
    let begun : (p : List ℕ) → In p chosen → begins p n ≡ true = λ p h. (keep-in (λ p. begins p n) B p h).1 in
    let less : (p q : List ℕ) → In p chosen → In q chosen → in_order q p ≡ false → length p < length q = λ p q u v h.
    lt_of_not-le (λ k. never _ (begins_order q p (begins_both q p n (begun q v) (begun p u) k)) h) in
    let strict = pairs_keep (λ p q. in_order q p ≡ false) (λ p. begins p n) B s in
    rw (sym (length-each length chosen))
    (less_few (each length chosen) 0 (suc (length n)) (pairs_each Less length chosen (pairs_weaken _ (λ p q. length p < length q) chosen less strict)) (λ x h.
    let r = in-each length chosen x h in
    let b = begins-length r.0 n (begun r.0 r.1) in
    (omega arith, omega (arith, r.2))))

module _ (t : Table) (g : Grid) (l : LawfulTable t g) where
  -- a name has the bytes from its start to the next one's
  pub name-length : (i : ℕ) → i < stands t → length (name_of t i) ≡ start_of t (i + 1) - start_of t i
  name-length i h =
      let whole : start_of t (i + 1) ≤ length t.text = start_inside t g l (i + 1) (omega arith) in
      ap length (name-part t g l i h)
      ∙ length-take-le (start_of t (i + 1) - start_of t i) (drop (start_of t i) t.text) (rw (length-drop (start_of t i) t.text) (omega arith))

  start_next : (i : ℕ) → i < stands t → start_of t (suc i) ≡ start_of t i + length (name_of t i)
  start_next i h = omega (arith, name-length i h, l.shaped.forward i h, ap (start_of t) (add-one i))

  nodes_few : (i : ℕ) → i ≤ stands t → nodes_before t i ≤ start_of t i + 1
  nodes_few zero h = omega arith
  nodes_few (suc i) h = omega (arith, nodes_step t i, start_next i (omega arith), nodes_few i (omega arith))

  -- a name's beginnings, the empty one among them
  abbrev begun : ℕ → ℕ
  begun i = suc (length (name_of t i))

  begun_all : (i : ℕ) → i ≤ stands t → total (each begun (up_to i)) ≡ start_of t i + i
  begun_all zero h = omega (arith, l.shaped.first)
  begun_all (suc i) h =
      let more = simp (each_append, total-append) at (ap (λ (s : List ℕ). total (each begun s)) (up_to-suc i)) in
      omega (arith, begun_all i (omega arith), start_next i (omega arith))

  names_short : length t.text ≤ 24 * stands t
  names_short =
      let most = total_most begun 25 (up_to (stands t)) (λ i h. omega (arith, l.short i (omega (arith, in_from 0 (stands t) i h)))) in
      omega (arith, begun_all (stands t) (omega arith), l.shaped.last, length_from 0 (stands t))

  -- no more regions than stands
  regions_few : (p : List ℕ) → length (regions_under t g p) ≤ length (under t p)
  regions_few p =
      let of : ℕ → List ℕ = λ r. keep (in_region g t r) (under t p) in
      let all = shuffle_length (by_region_shuffle t g l (under t p) (λ i h. (in-under t p i h).0)) in
      omega (arith, count_less (occupied t g p) (λ r. length (of r)) (up_to regions) (λ r q. some_length (of r) q), length_parts of (up_to regions))

  -- the pairs of a node and a stand under it
  pairs_few : total (each (λ p. length (under t p)) (beginnings t)) ≤ length t.text + stands t
  unfolding under
  pairs_few =
      let B = beginnings t in
      let few = total_less (λ i. length (keep (λ p. begins p (name_of t i)) B)) begun (up_to (stands t)) (λ i h. beginnings_few (name_of t i) B (beginnings-tree t l.ordered).sorted) in
      omega (arith, count_both (λ p i. begins p (name_of t i)) B (up_to (stands t)), begun_all (stands t) (omega arith), l.shaped.last)

  pub sizes_by_text : SizesByText t g
  sizes_by_text =
      let held = total_less (λ p. length (regions_under t g p)) (λ p. length (under t p)) (beginnings t) (λ p h. regions_few p) in
      record { nodes = omega (arith, nodes_all t, nodes_few (stands t) (omega arith), l.shaped.last); entries = omega (arith, held, entries_counted t g (beginnings t), pairs_few) }

  pub sizes_bounded : SizesBounded t g
  sizes_bounded =
      let nodes : node_count t ≤ 24 * stands t + 1 = omega (arith, sizes_by_text.nodes, names_short) in
      let entries : entry_count t g ≤ 25 * stands t = omega (arith, sizes_by_text.entries, names_short) in
      record {
        node_words = nodes_length t g;
        entry_words = entry_words_length t g;
        bit_words = bit_words_length t g;
        nodes = nodes;
        entries = entries;
        records_few = records_few t g;
        records = records_bound t g l;
        nodes_most = omega (arith, l.shaped.few);
        entries_most = omega (arith, l.shaped.few);
        records_most = ⊎_elim (λ (h : stands t ≤ 0). omega (arith, records_few t g)) (λ (h : 0 < stands t). omega (arith, records_bound t g l h, l.shaped.few)) (le_or_lt (stands t) 0);
        lone = λ e. (omega (arith, (root_first t).0), omega arith, records_lone t g e);
      }
