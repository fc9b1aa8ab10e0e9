-- Keys stand for hits: a larger key is a better hit, a key gives back its value and stand, and the k largest keys are those of the k best hits.
-- Assumes nothing.
use mathlib.Core.Path.{◌≡◌, refl, sym, ap, ◌∙◌}
use mathlib.Core.Logic.{inl, inr, ⊎_elim}
use mathlib.Core.List.{List, [], ◌∷◌}
use Prim.Native.Nat.{ℕ, ◌≤◌, ◌<◌}
use native.Mathlib.Omega.{arith}
use lib.ListN.{take}
use borrow.Table.Steps.{cases}
use borrow.Author.Tests.{ltb-true, ltb-false, lt-ltb, le-ltb}
use Rattle.base.specs.Lists.{In, each, sort_by}
use Rattle.base.proofs.Members.{each_take}
use Rattle.base.proofs.Sorts.{Linear, wins, loses, each_sort}
use Rattle.rules.specs.declared.Hit.{Hit}
use Rattle.rules.specs.Questions.{better}
use Rattle.best.specs.Keys.{key_of, value_in, stand_in, hit_of_key, larger}

pub larger_linear : Linear larger
larger_linear =
    record {
      ordering = record {
        asym = λ a b e. le-ltb a b (omega (arith, ltb-true b a e));
        trans = λ a b c e d. lt-ltb c a (omega (arith, ltb-true b a e, ltb-true c b d));
        not_trans = λ a b c e d. le-ltb c a (omega (arith, ltb-false b a e, ltb-false c b d));
      };
      equal = λ a b e d. omega (arith, ltb-false b a e, ltb-false a b d);
    }

pub better-larger : (a b : Hit) → a.stand < 1024 → b.stand < 1024 → better a b ≡ larger (key_of a) (key_of b)
better-larger a b h k =
    cases (better a b)
    (λ e. e ∙ sym (lt-ltb (key_of b) (key_of a) (⊎_elim (λ l. omega arith) (λ w. omega arith) (wins (λ h. h.value) (λ h. h.stand) a b e))))
    (λ e. e ∙ sym (le-ltb (key_of b) (key_of a) (⊎_elim (λ l. omega arith) (λ w. omega arith) (loses (λ h. h.value) (λ h. h.stand) a b e))))

hit_back : (h : Hit) → h.stand < 1024 → hit_of_key (key_of h) ≡ h
hit_back h l =
    let v : value_in (key_of h) ≡ h.value = omega arith in
    let s : stand_in (key_of h) ≡ h.stand = omega arith in
    rw (v, s)

-- no hit of at most this value and at least this stand number has a larger key
pub key_most : (h most : Hit) → h.value ≤ most.value → most.stand ≤ h.stand → key_of h ≤ key_of most
key_most h most v s = omega arith

module _ (hits : List Hit) (below : (h : Hit) → In h hits → h.stand < 1024) where
  pub best_keys : (k : ℕ) → each key_of (take k (sort_by better hits)) ≡ take k (sort_by larger (each key_of hits))
  best_keys k =
      each_take key_of k (sort_by better hits)
      ∙ ap (take k) (each_sort key_of better larger hits (λ a b h k. better-larger a b (below a h) (below b k)))

pub keys_hits : (hits : List Hit) → ((h : Hit) → In h hits → h.stand < 1024) → each hit_of_key (each key_of hits) ≡ hits
keys_hits [] below = refl
keys_hits (h ∷ hits) below = rw (hit_back h (below h (inl refl)), keys_hits hits (λ h k. below h (inr k)))
