-- The search as lists: whatever is offered or passed over, the k largest keys of all stands seen so far are held.
-- Passing over is right since no stand of the entry has a larger key than its bound with its first number. Assumes nothing.
use mathlib.Core.Path.{◌≡◌, refl, sym, ap, ◌∙◌}
use mathlib.Core.Logic.{inl, inr}
use mathlib.Core.Bool.{true}
use mathlib.Core.List.{List, [], ◌∷◌, ◌++◌, append_assoc}
use Prim.Native.Nat.{ℕ, suc, ◌-◌, ◌≤◌, ◌<◌}
use native.Mathlib.Omega.{arith}
use lib.Dec.{ltb, leb}
use lib.ListN.{length, get_or}
use lib.Seq.{slice}
use borrow.Table.Steps.{cases}
use borrow.Author.Tests.{ltb-true, leb-true}
use Rattle.std.specs.Prelude.{Ok}
use Rattle.base.specs.Lists.{In, each, each_list}
use Rattle.base.proofs.Tests.{and_parts}
use Rattle.base.proofs.Members.{in-each, each_append}
use Rattle.base.proofs.Shuffles.{shuffle_sym, middle, swap_parts}
use Rattle.rules.specs.declared.Grid.{Grid}
use Rattle.rules.specs.declared.Ranking.{Ranking}
use Rattle.walk.specs.declared.entry.Entry.{Entry}
use Rattle.walk.specs.Entries.{SpelledFrom}
use Rattle.best.specs.Keys.{key_of}
use Rattle.best.specs.Holds.{best_of}
use Rattle.best.proofs.Streams.{one_more, in_any_order, passed_over_lem}
use Rattle.search.specs.Searches.{StandColumns, Kept, and_then, readable_stand, hit_in, stand_offered, stands_offered, bound_hit, passed_over, entry_taken, entries_taken}
use Rattle.search.proofs.Reading.{EntryFacts, entry_usable}

-- the key of a stand
abbrev pub key_in : StandColumns → Grid → Ranking → ℕ → ℕ
key_in c g q i = key_of (hit_in c g q i)

-- an entry that can be gone by: these are its stands, and its bound holds for them
pub record Sound (c : StandColumns) (g : Grid) (q : Ranking) (order stands : List ℕ) (x : Entry) : Type 0 where
  pub facts : EntryFacts order x
  pub listed : slice x.first.0 x.past.0 order ≡ stands
  pub readable : (i : ℕ) → In i stands → readable_stand c g i ≡ true
  pub covered : (i : ℕ) → In i stands → key_in c g q i ≤ key_of (bound_hit g q order x)

module _ (c : StandColumns) (g : Grid) (q : Ranking) where
  offers_best : (ss seen : List ℕ) → ((i : ℕ) → In i ss → readable_stand c g i ≡ true)
      → stands_offered c g q ss (best_of q.k seen) ≡ Ok (best_of q.k (each (key_in c g q) ss ++ seen))
  unfolding stands_offered stand_offered
  offers_best [] seen h = refl
  offers_best (s ∷ ss) seen h =
      let key : ℕ = key_in c g q s in
      rw (h s (inl refl))
      (ap (stands_offered c g q ss) (one_more q.k key seen)
      ∙ offers_best ss (key ∷ seen) (λ i k. h i (inr k))
      ∙ ap Ok (in_any_order q.k (shuffle_sym (middle key (each (key_in c g q) ss) seen))))

  module _ (some : 0 < q.k) (order : List ℕ) where
    pass_best : (stands : List ℕ) (x : Entry) (seen : List ℕ) → Sound c g q order stands x
        → passed_over q.k (best_of q.k seen) (key_of (bound_hit g q order x)) ≡ true → best_of q.k (each (key_in c g q) stands ++ seen) ≡ best_of q.k seen
    unfolding passed_over
    pass_best stands x seen w e =
        let held = best_of q.k seen in
        let last = get_or held (q.k - 1) 0 in
        let most = key_of (bound_hit g q order x) in
        let s = and_parts (leb q.k (length held)) (ltb most last) e in
        passed_over_lem q.k some (each (key_in c g q) stands) seen (leb-true q.k (length held) s.0)
        (λ key k. let i = in-each (key_in c g q) stands key k in omega (arith, i.2, w.covered i.0 i.1, ltb-true most last s.1))

    entry_best : (stands : List ℕ) (x : Entry) (seen : List ℕ) → Sound c g q order stands x
        → entry_taken c g q order x (best_of q.k seen) ≡ Ok (best_of q.k (each (key_in c g q) stands ++ seen))
    unfolding entry_taken
    entry_best stands x seen w =
        cases (passed_over q.k (best_of q.k seen) (key_of (bound_hit g q order x)))
        (λ e. rw e (ap Ok (sym (pass_best stands x seen w e))))
        (λ e. rw e (ap (λ (l : List ℕ). stands_offered c g q l (best_of q.k seen)) w.listed ∙ offers_best stands seen w.readable))

    -- the entries es stand in the words from number n on
    pub entries_best : (entries : List ℕ) (stands : Entry → List ℕ) (es : List Entry) (n : ℕ) (seen : List ℕ) → SpelledFrom entries (length order) n es
        → ((x : Entry) → In x es → Sound c g q order (stands x) x)
        → entries_taken c g q order entries (length es) n (best_of q.k seen) ≡ Ok (best_of q.k (each (key_in c g q) (each_list stands es) ++ seen))
    unfolding entries_taken
    entries_best entries stands [] n seen spelled sound = refl
    entries_best entries stands (x ∷ es) n seen spelled sound =
        let w : Sound c g q order (stands x) x = sound x (inl refl) in
        let mine : List ℕ = each (key_in c g q) (stands x) in
        let others : List ℕ = each (key_in c g q) (each_list stands es) in
        rw (spelled.0, entry_usable order x w.facts)
        (ap (λ (s : Kept). and_then s (λ more. entries_taken c g q order entries (length es) (suc n) more)) (entry_best (stands x) x seen w)
        ∙ entries_best entries stands es (suc n) (mine ++ seen) spelled.1 (λ y k. sound y (inr k))
        ∙ ap Ok
        (in_any_order q.k (swap_parts others mine seen)
        ∙ ap (best_of q.k) (sym (append_assoc mine others seen) ∙ ap (λ (l : List ℕ). l ++ seen) (sym (each_append (key_in c g q) (stands x) (each_list stands es))))))
