-- The loop that writes stands and values of the keys held to the two rooms.
-- Assumes nothing.
use mathlib.Core.Path.{◌≡◌, sym, ap, ◌∙◌}
use mathlib.Core.List.{List, [], ◌∷◌, ◌++◌}
use Prim.Native.Nat.{ℕ, ◌+◌, ◌≤◌, ◌<◌}
use native.Mathlib.Omega.{arith}
use native.Mathlib.Numerals.{add-one}
use lib.ListN.{length, take, get_or, set}
use lib.Seq.{take-suc, take_all, length-take-le}
use Rattle.base.specs.Lists.{each, written}
use Rattle.base.proofs.Members.{length-each, each_append}
use Rattle.base.proofs.Rooms.{length-written, written_next}
use Rattle.best.specs.Keys.{value_in, stand_in}
use Rattle.search.specs.Searches.{Writable, Written}

-- of the first i keys f is written
module _ (f : ℕ → ℕ) (held room : List ℕ) (i : ℕ) (there : i < length held) where
  so_far : length (each f (take i held)) ≡ i
  so_far = length-each f (take i held) ∙ length-take-le i held (omega arith)

  next_key : (now : List ℕ) → i < length room → now ≡ written (each f (take i held)) room → set now i (f (get_or held i 0)) ≡ written (each f (take (i + 1) held)) room
  next_key now h e =
      let words : List ℕ = each f (take i held) in
      let more : each f (take (i + 1) held) ≡ words ++ (f (get_or held i 0) ∷ []) =
      ap (λ (n : ℕ). each f (take n held)) (add-one i) ∙ ap (each f) (take-suc held i 0 there) ∙ each_append f (take i held) (get_or held i 0 ∷ []) in
      ap (λ (l : List ℕ). set l i (f (get_or held i 0))) e
      ∙ ap (λ (n : ℕ). set (written words room) n (f (get_or held i 0))) (sym so_far)
      ∙ written_next words room (f (get_or held i 0)) (omega (arith, so_far))
      ∙ ap (λ (l : List ℕ). written l room) (sym more)

-- i of the keys are written
pub record Writing (held room₀ values₀ room values : List ℕ) (i : ℕ) : Type 0 where
  pub within : i ≤ length held
  pub fits : Writable held room₀ values₀
  pub done : Written (take i held) room₀ values₀ room values

module _ (held room₀ values₀ : List ℕ) where
  module _ (room values : List ℕ) (i : ℕ) (w : Writing held room₀ values₀ room values i) where
    length-kept : (f : ℕ → ℕ) (before : List ℕ) → length held ≤ length before → length (written (each f (take i held)) before) ≡ length before
    length-kept f before h =
        length-written (each f (take i held)) before (omega (arith, length-each f (take i held), length-take-le i held w.within, w.within))

    pub stands-long : length room ≡ length room₀
    stands-long = ap length w.done.stands ∙ length-kept stand_in room₀ w.fits.stands_fit

    pub values_long : length values ≡ length values₀
    values_long = ap length w.done.worths ∙ length-kept value_in values₀ w.fits.values_fit

    -- the next of these keys, which are those held
    pub write_next : (keys : List ℕ) (stand value : ℕ) → keys ≡ held → i < length keys → stand ≡ stand_in (get_or keys i 0) → value ≡ value_in (get_or keys i 0)
        → Writing held room₀ values₀ (set room i stand) (set values i value) (i + 1)
    write_next keys stand value e h s v =
        let there : i < length held = rw e at h in
        let of_stand : stand ≡ stand_in (get_or held i 0) = rw e at s in
        let of_value : value ≡ value_in (get_or held i 0) = rw e at v in
        record {
          within = omega arith;
          fits = w.fits;
          done = record {
            stands = rw of_stand (next_key stand_in held room₀ i there room (omega (arith, w.fits.stands_fit)) w.done.stands);
            worths = rw of_value (next_key value_in held values₀ i there values (omega (arith, w.fits.values_fit)) w.done.worths);
          };
        }

    pub write_done : length held ≤ i → Written held room₀ values₀ room values
    write_done h = let e : take i held ≡ held = take_all i held h in rw e at w.done
