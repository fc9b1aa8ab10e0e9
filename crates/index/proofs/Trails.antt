-- What a walk has behind it at a node is what the definitions say: how many entries and records the nodes before have, and of each node
-- above its number, its record and its regions; so the node is served as the rules say. Assumes nothing.
use mathlib.Core.Path.{◌≡◌, refl, sym, ap, ◌∙◌}
use mathlib.Core.Logic.{⊎_elim}
use mathlib.Core.Bool.{not}
use mathlib.Core.List.{List, [], ◌∷◌}
use Prim.Native.Nat.{ℕ, suc, ◌+◌, ◌-◌, ◌≤◌, ◌<◌}
use native.Mathlib.Omega.{arith}
use lib.Dec.{eqb}
use lib.ListN.{length, take, set, length-append}
use lib.Seq.{take-suc, take-length, get_or-set_same, get_or-set_other}
use borrow.Table.Steps.{cases}
use borrow.Author.Tests.{ne_eqb, eqb-true, eqb-false}
use Rattle.base.specs.Lists.{keep, each, total}
use Rattle.base.specs.Bits.{word_of}
use Rattle.base.proofs.Tests.{refuted}
use Rattle.base.proofs.Members.{get_or_in, keep_append}
use Rattle.base.proofs.Begins.{begins-length}
use Rattle.base.proofs.Sums.{total-suc}
use Rattle.rules.specs.declared.Grid.{Grid}
use Rattle.rules.specs.Tables.{Table, name_of, LawfulTable}
use Rattle.rules.specs.Indexes.{beginnings, node_count, number_in, but_last, occupied, regions_under, repeats, record_of}
use Rattle.meaning.specs.Trees.{text_of}
use Rattle.meaning.proofs.Tree.{number_at}
use Rattle.meaning.proofs.Tables.{beginnings-tree, beginnings_from, root_first}
use Rattle.meaning.proofs.Records.{repeats_word, repeat_some, record_repeat, record_own, next_above, next_length}
use Rattle.std.specs.Int.{from_bool}
use Rattle.node.specs.declared.records.Served.{Served}
use Rattle.node.specs.Columns.{IndexColumns, at}
use Rattle.node.specs.Visits.{Visit, Long, above_in, keeps_in, served_in}
use Rattle.node.specs.Rows.{bits_at, entries_at}
use Rattle.words.specs.Words.{Trail, root_trail, served_at, trail_past}
use Rattle.words.proofs.Walks.{long_still}
use Rattle.index.specs.Columns.{table_columns}
use Rattle.index.proofs.Numbers.{number_root}

-- a path with one place more: what it has below, and at the place itself
path_more : (path : List ℕ) (f : ℕ → ℕ) (l x k : ℕ) → l < length path → ((k : ℕ) → k < l → at path k ≡ f k) → x ≡ f l → k ≤ l → at (set path l x) k ≡ f k
path_more path f l x k h old e u =
    cases (eqb k l)
    (λ q. let w = eqb-true k l q in ap (at (set path l x)) w ∙ get_or-set_same path l x 0 h ∙ e ∙ ap f (sym w))
    (λ q. let w = eqb-false k l q in get_or-set_other path l k x 0 w ∙ old k (omega arith))

module _ (t : Table) (g : Grid) (l : LawfulTable t g) where
  abbrev C : IndexColumns
  C = table_columns t g

  abbrev B : List (List ℕ)
  B = beginnings t

  -- how many entries the nodes before node j have, and how many records they keep
  abbrev pub entries_to : ℕ → ℕ
  entries_to j = total (each (λ q. length (regions_under t g q)) (take j B))

  abbrev pub records_to : ℕ → ℕ
  records_to j = length (keep (λ q. not (repeats t g q)) (take j B))

  abbrev pub bits_of : List ℕ → ℕ
  bits_of p = word_of (occupied t g p) 0 64

  -- the trail is that of node j
  pub record Along (j : ℕ) (a : Trail) : Type 0 where
    pub number : a.number ≡ j
    pub entries : a.entries ≡ entries_to j
    pub records : a.records ≡ records_to j
    pub long : Long a.above
    pub numbers_are : (k : ℕ) → k < length (text_of t j) → at a.above.numbers k ≡ number_in (take k (text_of t j)) B
    pub records_are : (k : ℕ) → k < length (text_of t j) → at a.above.records k ≡ record_of t g (take k (text_of t j))
    pub regions_are : (k : ℕ) → k < length (text_of t j) → at a.above.regions k ≡ bits_of (take k (text_of t j))

  pub along_root : Along 0 root_trail
  along_root =
      let none : length (text_of t 0) ≡ 0 = ap length (root_first t).1 in
      record {
        number = refl;
        entries = refl;
        records = refl;
        long = record { numbers = refl; records = refl; regions = refl };
        numbers_are = λ k u. absurd (omega arith);
        records_are = λ k u. absurd (omega arith);
        regions_are = λ k u. absurd (omega arith);
      }

  -- how node j is served, by the rules
  abbrev pub meant_for : List ℕ → Served
  meant_for p = record { number = record_of t g p; own = not (repeats t g p) }

  module _ (j : ℕ) (h : j < node_count t) (a : Trail) (s : Along j a) (v : Visit) (size : v.length ≡ length (text_of t j)) (bits : bits_at C v ≡ bits_of (text_of t j)) where
    abbrev p : List ℕ
    p = text_of t j

    -- ---- what lies above

    -- the place above is that of the text without its last byte
    above_some : (path : List ℕ) (f : List ℕ → ℕ) → ((k : ℕ) → k < length p → at path k ≡ f (take k p)) → 0 < length p → above_in path v.length ≡ f (but_last p)
    above_some path f old u = rw (size, ne_eqb (length p) 0 (λ e. omega arith)) (old (length p - 1) (omega arith))

    pub number_above : above_in a.above.numbers v.length ≡ number_in (but_last p) B
    number_above =
        cases (eqb (length p) 0)
        (λ q.
        let z = eqb-true (length p) 0 q in
        let root : but_last p ≡ [] = ap (λ (n : ℕ). take (n - 1) p) z in
        rw (size, q, root) (sym (number_root t)))
        (λ q. let z = eqb-false (length p) 0 q in above_some a.above.numbers (λ x. number_in x B) s.numbers_are (omega arith))

    -- ---- how the node is served

    keeps-meant : keeps_in a.above.regions v.length (bits_at C v) ≡ not (repeats t g p)
    unfolding keeps_in
    keeps-meant =
        cases (eqb (length p) 0)
        (λ q. let z = eqb-true (length p) 0 q in rw (size, q, refuted (repeats t g p) (λ r. omega (arith, repeat_some t g p r))))
        (λ q.
        let z = eqb-false (length p) 0 q in
        rw (bits, size, q, s.regions_are (length p - 1) (omega arith)) (ap not (sym (repeats_word t g p (omega arith)))))

    pub served_meant : served_at C a v ≡ meant_for p
    unfolding served_in
    served_meant =
        cases (repeats t g p)
        (λ q. rw (keeps-meant, q, above_some a.above.records (record_of t g) s.records_are (repeat_some t g p q), ← record_repeat t g p q))
        (λ q. rw (keeps-meant, q, s.records, ← record_own t g l.ordered j h q))

    -- ---- the node past it

    kept_next : records_to j + from_bool (not (repeats t g p)) ≡ records_to (suc j)
    kept_next =
        let one = ap (λ (x : List (List ℕ)). length (keep (λ q. not (repeats t g q)) x)) (take-suc B j [] h) in
        rw (one, keep_append (λ q. not (repeats t g q)) (take j B) (p ∷ []), length-append (keep (λ q. not (repeats t g q)) (take j B)) (keep (λ q. not (repeats t g q)) (p ∷ [])))
        (cases (repeats t g p) (λ q. rw q) (λ q. rw q))

    short : length p ≤ 24
    short =
        ⊎_elim
        (λ (e : p ≡ []). omega (arith, ap length e))
        (λ w. omega (arith, begins-length p (name_of t w.0) w.2, l.short w.0 w.1))
        (beginnings_from t p (get_or_in [] B j h))

    module _ (held : length (entries_at C v) ≡ length (regions_under t g p)) (next : suc j < node_count t) where
      -- its path has what node j's had, and node j
      path_next : (path : List ℕ) (f : List ℕ → ℕ) (x : ℕ) → length path ≡ 25 → ((k : ℕ) → k < length p → at path k ≡ f (take k p)) → x ≡ f p → (k : ℕ) → k < length (text_of t (suc j))
          → at (set path v.length x) k ≡ f (take k (text_of t (suc j)))
      path_next path f x n old e k u =
          rw (size, next_above t l.ordered j next k u)
          (path_more path (λ i. f (take i p)) (length p) x k (omega (arith, short)) old (e ∙ ap f (sym (take-length p))) (omega (arith, next_length t l.ordered j next)))

      pub along_more : Along (suc j) (trail_past C a v)
      unfolding trail_past
      along_more =
          record {
            number = ap suc s.number;
            entries = rw (s.entries, held) (sym (total-suc (λ q. length (regions_under t g q)) [] B j h));
            records = rw (served_meant, s.records) kept_next;
            long = long_still a.above v.length a.number (served_at C a v).number (bits_at C v) s.long;
            numbers_are = path_next a.above.numbers (λ x. number_in x B) a.number s.long.numbers s.numbers_are (s.number ∙ sym (number_at B (beginnings-tree t l.ordered).sorted j h));
            records_are = path_next a.above.records (record_of t g) _ s.long.records s.records_are (ap (λ (x : Served). x.number) served_meant);
            regions_are = path_next a.above.regions bits_of _ s.long.regions s.regions_are bits;
          }
