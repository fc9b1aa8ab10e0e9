-- A ranked answer means what the rules say: the best k stands under the text, best first.
-- Assumes nothing.
use mathlib.Core.Path.{◌≡◌, refl, sym, ap, ◌∙◌, subst}
use mathlib.Core.Logic.{⊎_elim}
use mathlib.Core.List.{List}
use Prim.Native.Nat.{ℕ, min}
use lib.ListN.{take, drop, length-take, take-append-drop}
use Rattle.base.specs.Lists.{each, sort_by, In, Pairwise}
use Rattle.base.proofs.Members.{in_either, length-each, in-each, each_in, in_take}
use Rattle.base.proofs.Shuffles.{shuffle_sym, shuffle_in, sort_shuffle}
use Rattle.base.proofs.Sorts.{length_sort, sort_wins}
use Rattle.base.proofs.Pairs.{pairs_seam, pairs_take, pairs_at, Distinct, distinct_once, distinct_sort, distinct_less}
use Rattle.rules.specs.declared.Grid.{Grid}
use Rattle.rules.specs.declared.Ranking.{Ranking}
use Rattle.rules.specs.declared.Hit.{Hit}
use Rattle.rules.specs.Tables.{Table}
use Rattle.rules.specs.Questions.{under, better, hit_of}
use Rattle.meaning.specs.Meaning.{StandUnder, Better, no_hit, RankedMeans}
use Rattle.meaning.proofs.Listing.{under_rises, stand-under, under-stand}

module _ (t : Table) (g : Grid) (p : List ℕ) (q : Ranking) where
  hits : List Hit
  hits = each (hit_of t g q) (under t p)

  sorted : List Hit
  sorted = sort_by better hits

  stands_differ : Distinct (λ h. h.stand) hits
  unfolding hits
  stands_differ = distinct_less (λ h. h.stand) (hit_of t g q) (under t p) (λ i. refl) (under_rises t p)

  hits_turn : Pairwise Better sorted
  unfolding sorted
  hits_turn = sort_wins (λ h. h.value) (λ h. h.stand) hits stands_differ

  left_out : (h : Hit) → In h (take q.k sorted) → (i : ℕ) → StandUnder t p i → (In (hit_of t g q i) (take q.k sorted) → ⊥) → Better h (hit_of t g q i)
  unfolding hits sorted
  left_out h k i u out =
      let parts = sym (take-append-drop q.k sorted) in
      let there = shuffle_in (shuffle_sym (sort_shuffle better hits)) (hit_of t g q i) (each_in (hit_of t g q) (under t p) i (under-stand t p i u)) in
      ⊎_elim
      (λ m. absurd (out m))
      (pairs_seam Better (take q.k sorted) (drop q.k sorted) (subst (Pairwise Better) parts hits_turn) h (hit_of t g q i) k)
      (in_either (hit_of t g q i) (take q.k sorted) (drop q.k sorted) (subst (λ (l : List Hit). In (hit_of t g q i) l) parts there))

  pub ranked_means : RankedMeans t g p q
  unfolding hits sorted
  ranked_means =
      record {
        many = length-take q.k sorted ∙ ap (min q.k) (length_sort better hits ∙ length-each (hit_of t g q) (under t p));
        only = λ h k.
            let s = in-each (hit_of t g q) (under t p) h (shuffle_in (sort_shuffle better hits) h (in_take q.k sorted h k)) in
            (s.0, stand-under t p s.0 s.1, s.2);
        once =
            distinct_once (λ h. h.stand) no_hit (take q.k sorted)
            (pairs_take (λ h k. h.stand ≡ k.stand → ⊥) q.k sorted (distinct_sort (λ h. h.stand) better hits stands_differ));
        in_turn = pairs_at Better no_hit (take q.k sorted) (pairs_take Better q.k sorted hits_turn);
        best = left_out;
      }
