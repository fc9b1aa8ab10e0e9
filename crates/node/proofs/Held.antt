-- What a run of stands holds in each region, and the walk over the run that gathers it: the regions as bits, the places and the scores.
-- Assumes nothing.
use mathlib.Core.Path.{◌≡◌, refl, sym, ap, ◌∙◌}
use mathlib.Core.Bool.{true, false, not, cond, ◌||◌, or-true, or-false}
use mathlib.Core.List.{List, [], ◌∷◌, ◌++◌, append-nil}
use Prim.Native.Nat.{ℕ, ◌+◌, ◌-◌, ◌*◌, ◌%◌, ◌^◌, ◌≤◌, ◌<◌, max}
use native.Mathlib.Omega.{arith}
use native.Mathlib.Nat.{zero-add}
use lib.Bits.{bit_or}
use lib.Dec.{eqb, ltb}
use lib.ListN.{length, set, length-append, length-set}
use lib.Seq.{get_or-set_same, get_or-set_other}
use borrow.Table.Steps.{cases}
use borrow.Author.Tests.{eq-eqb, ne_eqb, eqb-true, eqb-false, ltb-true, ltb-false}
use Rattle.base.specs.Lists.{keep, each, largest, is_empty}
use Rattle.base.specs.Bits.{word_of, bit_at}
use Rattle.base.proofs.Tests.{never}
use Rattle.base.proofs.Members.{keep_append, empty_of, length-keep, each_append}
use Rattle.base.proofs.Runs.{length_from}
use Rattle.base.proofs.Words.{words_or, word_one, word_same, word_none, one_shifted, bit-asks}
use Rattle.base.proofs.Sums.{largest_last}
use Rattle.node.specs.Columns.{at, span, stands_under, Ends, stands_in, held_among, bits_among, Sized, Tallied}
use Rattle.node.proofs.Ends.{span_none, span_last, end_none}

module _ (region s : List ℕ) where
  -- ---- one stand more

  module _ (k r : ℕ) where
    pub stands_here : at region k ≡ r → stands_in region r (s ++ (k ∷ [])) ≡ stands_in region r s ++ (k ∷ [])
    unfolding stands_in
    stands_here e = keep_append (λ i. eqb (at region i) r) s (k ∷ []) ∙ rw (eq-eqb (at region k) r e)

    pub stands_there : (at region k ≡ r → ⊥) → stands_in region r (s ++ (k ∷ [])) ≡ stands_in region r s
    unfolding stands_in
    stands_there e =
        keep_append (λ i. eqb (at region i) r) s (k ∷ []) ∙ rw (ne_eqb (at region k) r e) (append-nil (keep (λ i. eqb (at region i) r) s))

    held_here : at region k ≡ r → held_among region (s ++ (k ∷ [])) r ≡ true
    unfolding held_among
    held_here e = rw (stands_here e) (some (stands_in region r s))
      where
        some : (l : List ℕ) → not (is_empty (l ++ (k ∷ []))) ≡ true
        some [] = refl
        some (x ∷ l) = refl

    held_there : (at region k ≡ r → ⊥) → held_among region (s ++ (k ∷ [])) r ≡ held_among region s r
    unfolding held_among
    held_there e = rw (stands_there e)

  pub stands_none : (r : ℕ) → held_among region s r ≡ false → stands_in region r s ≡ []
  unfolding held_among
  stands_none r e = empty_of (stands_in region r s) e

  pub stands_few : (r : ℕ) → length (stands_in region r s) ≤ length s
  unfolding stands_in
  stands_few r = length-keep (λ i. eqb (at region i) r) s

  -- its region's bit joins the others
  held_more : (k x : ℕ) → (held_among region s x || eqb x (at region k)) ≡ held_among region (s ++ (k ∷ [])) x
  held_more k x =
      cases (eqb x (at region k))
      (λ q. rw q (or-true (held_among region s x) ∙ sym (held_here k x (sym (eqb-true x (at region k) q)))))
      (λ q. rw q (or-false (held_among region s x) ∙ sym (held_there k x (λ e. eqb-false x (at region k) q (sym e)))))

  pub bits_more : (k r : ℕ) → r ≡ at region k → r < 64 → bit_or (bits_among region s) (1 * 2 ^ r % 2 ^ 64) ≡ bits_among region (s ++ (k ∷ []))
  bits_more k r e h =
      let one : 1 * 2 ^ r % 2 ^ 64 ≡ word_of (λ x. eqb x (0 + r)) 0 64 = one_shifted 64 r h ∙ sym (word_one 0 r 64 h) in
      ap (bit_or (bits_among region s)) one
      ∙ words_or (held_among region s) (λ x. eqb x (0 + r)) 0 64
      ∙ word_same (λ x. held_among region s x || eqb x (0 + r)) (held_among region (s ++ (k ∷ []))) 0 0 64 (λ x l. rw (zero-add r, e) (held_more k (0 + x)))

held_none : (region : List ℕ) (r : ℕ) → held_among region [] r ≡ false
unfolding held_among stands_in
held_none region r = refl

bits_none : (region : List ℕ) → bits_among region [] ≡ 0
bits_none region = word_same (held_among region []) (λ k. false) 0 0 64 (λ k h. held_none region (0 + k)) ∙ word_none 0 64

-- ---- the regions of a run

pub record Marking (region : List ℕ) (i bits k : ℕ) : Type 0 where
  pub after : i ≤ k
  pub word : bits ≡ bits_among region (span i k)

module _ (region : List ℕ) (i : ℕ) where
  pub marking : Marking region i 0 i
  marking = record { after = omega arith; word = sym (ap (bits_among region) (span_none i) ∙ bits_none region) }

  pub marking_more : (bits k r : ℕ) → Marking region i bits k → r ≡ at region k → r < 64 → Marking region i (bit_or bits (1 * 2 ^ r % 2 ^ 64)) (k + 1)
  marking_more bits k r s q lt =
      record {
        after = omega (arith, s.after);
        word =
            ap (λ (w : ℕ). bit_or w (1 * 2 ^ r % 2 ^ 64)) s.word
            ∙ bits_more region (span i k) k r q lt
            ∙ ap (bits_among region) (sym (span_last i k s.after));
      }

-- those under a node end where its stands do
module _ (shared region : List ℕ) (i l : ℕ) where
  pub marked_none : length shared ≤ i → 0 ≡ bits_among region (stands_under shared i l)
  marked_none h = (marking region i).word ∙ ap (λ (e : ℕ). bits_among region (span i e)) (sym (end_none shared i l h))

  pub marked : (bits k : ℕ) → Marking region i bits k → Ends shared i l k → bits ≡ bits_among region (stands_under shared i l)
  marked bits k s e = s.word ∙ ap (λ (x : ℕ). bits_among region (span i x)) e.end

-- ---- the tally

larger : (a b : ℕ) → max a b ≡ cond (ltb a b) b a
larger a b = cases (ltb a b) (λ q. rw q (omega (arith, ltb-true a b q))) (λ q. rw q (omega (arith, ltb-false a b q)))

-- slots that say f of each region that holds one of the stands say it of one stand more, once its region's is stored
module _ (region s : List ℕ) (k r : ℕ) (q : r ≡ at region k) where
  stored : (slots : List ℕ) (f : ℕ → List ℕ → ℕ) (v : ℕ) → Sized slots → r < 64
      → ((x : ℕ) → x < 64 → held_among region s x ≡ true → at slots x ≡ f x (stands_in region x s))
      → v ≡ f r (stands_in region r s ++ (k ∷ []))
      → (x : ℕ) → x < 64 → held_among region (s ++ (k ∷ [])) x ≡ true → at (set slots r v) x ≡ f x (stands_in region x (s ++ (k ∷ [])))
  stored slots f v size lt old new x l u =
      cases (eqb x r)
      (λ w. rw (eqb-true x r w) (get_or-set_same slots r v 0 (omega arith) ∙ new ∙ ap (f r) (sym (stands_here region s k r (sym q)))))
      (λ w.
      let ne : x ≡ r → ⊥ = eqb-false x r w in
      let other : at region k ≡ x → ⊥ = λ e. ne (sym e ∙ sym q) in
      get_or-set_other slots r x v 0 ne ∙ old x l (sym (held_there region s k x other) ∙ u) ∙ ap (f x) (sym (stands_there region s k x other)))

pub record Tallying (region score next : List ℕ) (i e : ℕ) (places best : List ℕ) (bits k : ℕ) : Type 0 where
  pub marks : Marking region i bits k
  pub within : k ≤ e
  pub so_far : Tallied region score next (span i k) places best bits

module _ (region score next : List ℕ) (i e : ℕ) where
  pub tallying : (places best : List ℕ) → i ≤ e → Sized places → Sized best → Tallying region score next i e places best 0 i
  tallying places best h p b =
      let m = marking region i in
      record { marks = m; within = h; so_far = record { word = m.word; past = λ r lt q. none r q; most = λ r lt q. none r q; places_size = p; best_size = b } }
    where
      none : {A : Type 0} (r : ℕ) → held_among region (span i i) r ≡ true → A
      none r q = never (held_among region (span i i) r) q (ap (λ (s : List ℕ). held_among region s r) (span_none i) ∙ held_none region r)

  module _ (places best : List ℕ) (bits k r : ℕ) (s : Tallying region score next i e places best bits k) (h : k < e) (q : r ≡ at region k) (lt : r < 64) where
    -- what a slot of the region stands for so far, by its bit
    slot : (f : List ℕ → ℕ) (here fresh a : ℕ) → (held_among region (span i k) r ≡ true → here ≡ f (stands_in region r (span i k))) → fresh ≡ f []
        → a ≡ cond (bit_at bits r) here fresh → a ≡ f (stands_in region r (span i k))
    slot f here fresh a full none e =
        e
        ∙ ap (λ (w : ℕ). cond (bit_at w r) here fresh) s.so_far.word
        ∙ rw (bit-asks (held_among region (span i k)) 0 64 r lt, zero-add r)
        (cases (held_among region (span i k) r) (λ w. rw w (full w)) (λ w. rw w (none ∙ ap f (sym (stands_none region (span i k) r w)))))

    module _ (a : ℕ) (ea : a ≡ cond (bit_at bits r) (at places r) (at next r)) where
      place_now : a ≡ at next r + length (stands_in region r (span i k))
      place_now = slot (λ l. at next r + length l) (at places r) (at next r) a (s.so_far.past r lt) (omega arith) ea

      pub place_small : at next r ≤ 1024 → e ≤ 1024 → a ≤ 2048
      place_small u v = omega (arith, place_now, stands_few region (span i k) r, length_from i (k - i))

      pub tallying_more : (b m : ℕ) → b ≡ cond (bit_at bits r) (at best r) 0 → m ≡ max b (at score k)
          → Tallying region score next i e (set places r (a + 1)) (set best r m) (bit_or bits (1 * 2 ^ r % 2 ^ 64)) (k + 1)
      tallying_more b m eb em =
          let seen = span i k in
          let marks' = marking_more region i bits k r s.marks q lt in
          let more : span i (k + 1) ≡ span i k ++ (k ∷ []) = span_last i k s.marks.after in
          let place : a + 1 ≡ at next r + length (stands_in region r (span i k) ++ (k ∷ [])) =
          omega (arith, place_now, length-append (stands_in region r (span i k)) (k ∷ [])) in
          let top : b ≡ largest (each (at score) (stands_in region r (span i k))) =
          slot (λ l. largest (each (at score) l)) (at best r) 0 b (s.so_far.most r lt) refl eb in
          let score' : m ≡ largest (each (at score) (stands_in region r (span i k) ++ (k ∷ []))) =
          em
          ∙ larger b (at score k)
          ∙ ap (λ (x : ℕ). cond (ltb x (at score k)) (at score k) x) top
          ∙ sym (ap largest (each_append (at score) (stands_in region r (span i k)) (k ∷ [])) ∙ largest_last (each (at score) (stands_in region r (span i k))) (at score k)) in
          record {
            marks = marks';
            within = omega arith;
            so_far = record {
              word = marks'.word;
              past = rw more (stored region (span i k) k r q places (λ x l. at next x + length l) (a + 1) s.so_far.places_size lt s.so_far.past place);
              most = rw more (stored region (span i k) k r q best (λ x l. largest (each (at score) l)) m s.so_far.best_size lt s.so_far.most score');
              places_size = length-set places r (a + 1) ∙ s.so_far.places_size;
              best_size = length-set best r m ∙ s.so_far.best_size;
            };
          }
