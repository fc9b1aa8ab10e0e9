-- What the ranked question answers on a lawful set, with rooms for 16, as lines: they are the reply.
-- Assumes nothing.
use mathlib.Core.Path.{◌≡◌, refl, sym, ap, ◌∙◌}
use mathlib.Core.Bool.{true, cond}
use mathlib.Core.List.{List, [], ◌∷◌, ◌++◌}
use Prim.Native.Nat.{ℕ, ◌≤◌, ◌<◌}
use native.Mathlib.Omega.{arith}
use lib.ListN.{length, take, drop, get_or}
use lib.Seq.{take-append_seam}
use lib.Dec.{eqb}
use borrow.Table.Steps.{cases}
use borrow.Author.Tests.{le-leb, leb-true, ne_eqb, eqb-true, eqb-false}
use Rattle.base.specs.Lists.{up_to, each, each_list, written}
use Rattle.base.proofs.Members.{get_or_in, length-each, get_or-each, each_list-each, each_list_same}
use Rattle.base.proofs.Runs.{each-get_or, in_from}
use Rattle.base.proofs.Tests.{tested, every-at}
use Rattle.rules.specs.declared.Grid.{Grid}
use Rattle.rules.specs.declared.Ranking.{Ranking}
use Rattle.rules.specs.declared.Hit.{Hit}
use Rattle.rules.specs.declared.Refusal.{Refusal}
use Rattle.std.specs.Prelude.{Result, Ok, Err}
use Rattle.rules.specs.Numbers.{refusal_number, telling, first_given}
use Rattle.rules.specs.Names.{text_refusal}
use Rattle.rules.specs.Tables.{Table, table_refusal}
use Rattle.rules.specs.Questions.{ranking, ranked_list, ranking_lawful, ranked_refusal}
use Rattle.rules.specs.Outcomes.{Outcome, outcome, refused, stands_of, values_of, ranked_outcome, ranked_came}
use Rattle.rules.specs.Indexes.{Index, set_lawful}
use Rattle.rules.proofs.Lawful.{lawful, taken, set_parts}
use Rattle.rules.proofs.Numbers.{refusal_some}
use Rattle.rules.proofs.Outcomes.{settled-refused}
use Rattle.meaning.specs.Meaning.{no_hit}
use Rattle.meaning.proofs.Meaning.{table_means}
use Rattle.rules.proofs.Refusals.{first_none}
use Rattle.lines.specs.Writing.{ascii, decimal_of, line}
use Rattle.desk_form.specs.Printed.{printed_refusal, printed_hit, printed_hits, reply_to}
use Rattle.desk_answer.specs.Promises.{BestFound, FindsBest}
use Rattle.desk_answer.specs.Printing.{hit_lines, hits_to, found_lines, NamesListed}

-- what was written to a room, as many as were
front : (f : Hit → ℕ) (l : List Hit) (room : List ℕ) → take (length l) (written (each f l) room) ≡ each f l
front f l room = rw (← length-each f l) (take-append_seam (each f l) (drop (length (each f l)) room))

-- a hit's lines, by its columns and by its table
same_lines : (t : Table) (h : Hit) → hit_lines t.text t.starts h.stand h.value ≡ printed_hit t h
unfolding hit_lines printed_hit line
same_lines t h = refl

-- a question that is not refused asks for at most 16
k_most : (g : Grid) (p : List ℕ) (q : Ranking) → ranked_refusal g p q ≡ 0 → q.k ≤ 16
unfolding ranking_lawful
k_most g p q e =
    let lawful = tested (ranking_lawful g q) (λ z. omega arith) (first_none (text_refusal p) (cond (ranking_lawful g q) 0 12) e).1 in
    leb-true q.k 16 (every-at _ 3 lawful.0)

module _ (t : Table) (g : Grid) (p : List ℕ) (q : Ranking) where
  -- a refusal is the reply
  pub refusal_told : (why : Refusal) → refusal_number why ≡ first_given (table_refusal t g) (ranked_refusal g p q) → printed_refusal (refusal_number why) ≡ reply_to t g p q
  unfolding reply_to
  refusal_told why e =
      let some : first_given (table_refusal t g) (ranked_refusal g p q) ≡ 0 → ⊥ = λ z. refusal_some why (e ∙ z) in
      rw (e, ne_eqb _ 0 some)

  module _ (n : ℕ) (found values : List ℕ) (b : BestFound t g p q n found values) where
    hits : List Hit
    hits = ranked_list t g p q

    fine : table_refusal t g ≡ 0
    fine = (first_none (table_refusal t g) (ranked_refusal g p q) b.fine).0

    asked : ranked_refusal g p q ≡ 0
    asked = (first_none (table_refusal t g) (ranked_refusal g p q) b.fine).1

    many : length hits ≤ 16
    unfolding hits
    many = omega (arith, ((table_means t g fine).ranked p q).many, k_most g p q asked)

    found_long : length (take n found) ≡ length hits
    unfolding hits
    found_long = ap length b.stands ∙ length-each (λ (h : Hit). h.stand) hits

    -- a place of the two rooms
    stand_at : (i : ℕ) → i < length hits → get_or (take n found) i 0 ≡ (get_or hits i no_hit).stand
    unfolding hits
    stand_at i h = ap (λ l. get_or l i 0) b.stands ∙ get_or-each (λ (h : Hit). h.stand) hits i no_hit 0 h

    value_at : (i : ℕ) → i < length hits → get_or (take n values) i 0 ≡ (get_or hits i no_hit).value
    unfolding hits
    value_at i h = ap (λ l. get_or l i 0) b.worths ∙ get_or-each (λ (h : Hit). h.value) hits i no_hit 0 h

    pub names_short : NamesListed t.text t.starts (take n found)
    unfolding hits
    names_short =
        record {
          few = omega (arith, found_long, many);
          short =
              λ i h.
              let inside : i < length hits = omega (arith, found_long) in
              let o = ((table_means t g fine).ranked p q).only (get_or hits i no_hit) (get_or_in no_hit hits i inside) in
              let e : get_or (take n found) i 0 ≡ o.0 = stand_at i inside ∙ ap (λ (h : Hit). h.stand) o.2 in
              rw e ((lawful t g fine).short o.0 o.1.stand);
        }

    pub hits_told : found_lines t.text t.starts (take n found) (take n values) ≡ reply_to t g p q
    unfolding hits found_lines hits_to printed_hits reply_to line
    hits_told = rw (b.fine, found_long) (ap (λ l. line (ascii "found=") (decimal_of (length hits)) ++ l) each_hit)
      where
        each_hit : each_list (λ i. hit_lines t.text t.starts (get_or (take n found) i 0) (get_or (take n values) i 0)) (up_to (length hits)) ≡ each_list (printed_hit t) hits
        each_hit =
            each_list_same _ (λ i. printed_hit t (get_or hits i no_hit)) (up_to (length hits)) (λ i h.
            let inside : i < length hits = omega (arith, (in_from 0 (length hits) i h).1) in
            rw (stand_at i inside, value_at i inside) (same_lines t (get_or hits i no_hit)))
            ∙ sym (each_list-each (printed_hit t) (λ i. get_or hits i no_hit) (up_to (length hits)))
            ∙ ap (each_list (printed_hit t)) (sym (each-get_or no_hit hits))

module _ (t : Table) (g : Grid) (x : Index) (p : List ℕ) (q : Ranking) (room values room' values' : List ℕ) (law : set_lawful t g x ≡ true) (wide : length room ≡ 16) (wide' : length values ≡ 16) where
  best : List Hit
  best = ranked_list t g p q

  taken_table : table_refusal t g ≡ 0
  taken_table = taken t g (set_parts t g x law).table

  -- what the rules' ranking comes to
  abbrev comes : Outcome
  comes = ranked_outcome (ranked_refusal g p q) q.k (ranking t g p q) (room ∷ values ∷ [])

  abbrev Exact : Result ℕ Refusal → Type 0
  Exact a = ranked_came a room' values' ≡ comes

  comes_refused : (ranked_refusal g p q ≡ 0 → ⊥) → comes ≡ refused (ranked_refusal g p q) (room ∷ values ∷ [])
  comes_refused h = settled-refused (ranked_refusal g p q) _ _ _ _ _ h

  comes_listed : ranked_refusal g p q ≡ 0 → comes ≡ outcome (telling (length best)) (written (stands_of best) room ∷ written (values_of best) values ∷ [])
  unfolding best
  comes_listed e =
      let k = k_most g p q e in
      rw (e, le-leb q.k (length room) (omega arith), le-leb q.k (length values) (omega arith))

  best_refused : (why : Refusal) → Exact (Err why) → refusal_number why ≡ first_given (table_refusal t g) (ranked_refusal g p q)
  best_refused why x =
      rw taken_table
      (cases (eqb (ranked_refusal g p q) 0)
      (λ e. absurd (refusal_some why (ap (λ (o : Outcome). o.told.refusal) (x ∙ comes_listed (eqb-true _ _ e)))))
      (λ e. ap (λ (o : Outcome). o.told.refusal) (x ∙ comes_refused (eqb-false _ _ e))))

  best_found : (n : ℕ) → Exact (Ok n) → BestFound t g p q n room' values'
  unfolding best
  best_found n x =
      cases (eqb (ranked_refusal g p q) 0)
      (λ e.
      let same = x ∙ comes_listed (eqb-true _ _ e) in
      let counted : n ≡ length best = ap (λ (o : Outcome). o.told.number) same in
      record {
        fine = rw taken_table (eqb-true _ _ e);
        count = counted;
        stands = rw (counted, ap (λ (o : Outcome). get_or o.rooms 0 []) same) (front (λ (h : Hit). h.stand) best room);
        worths = rw (counted, ap (λ (o : Outcome). get_or o.rooms 1 []) same) (front (λ (h : Hit). h.value) best values);
      })
      (λ e. absurd (eqb-false _ _ e (sym (ap (λ (o : Outcome). o.told.refusal) (x ∙ comes_refused (eqb-false _ _ e))))))

  pub best_came : (r : Result ℕ Refusal) → Exact r → FindsBest t g p q r room' values'
  best_came (Ok n) x = best_found n x
  best_came (Err why) x = best_refused why x
