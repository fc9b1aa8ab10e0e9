-- What a table and a grid have that no refusal meets, part by part, and each refusal by the first test that fails; what a lawful set has.
-- Assumes nothing.
use Prim.Native.Nat.{ℕ, zero, suc, ◌+◌, ◌-◌, ◌≤◌, ◌<◌}
use mathlib.Core.Path.{◌≡◌, sym, ap, ◌∙◌}
use mathlib.Core.Bool.{true, false, not, and-false}
use mathlib.Core.List.{List}
use native.Mathlib.Omega.{arith}
use lib.Dec.{leb}
use lib.IntN.{ℤ}
use lib.ListN.{length, get_or, take, drop}
use borrow.Author.Tests.{not-false, leb-true, eqb-true, lt-ltb, lt-leb, le-leb, eq-eqb}
use Rattle.base.specs.Lists.{begins}
use Rattle.base.proofs.Tests.{missed, and_left, and_right, every-at, every_of}
use Rattle.base.proofs.Scans.{all-at, all_of}
use Rattle.rules.specs.declared.Grid.{Grid}
use Rattle.rules.specs.declared.Refusal.{Refusal}
use Rattle.std.specs.Prelude.{Result, Ok}
use Rattle.rules.specs.Numbers.{verdict_number}
use Rattle.rules.specs.Places.{grid_lawful, in_grid}
use Rattle.rules.specs.Names.{name_allowed, in_order, spanned, name}
use Rattle.rules.specs.Tables.{Table, stands, start_of, name_of, place_in, place_of, score_of, rising, shape_lawful, names_allowed, names_in_order, stand_lawful, stands_lawful, table_refusal, Shaped, LawfulTable}
use Rattle.rules.specs.Indexes.{Index, order_words, node_words, entry_words, bit_words, set_lawful}
use Rattle.rules.proofs.Bytes.{name_bytes}

-- where a stand's name lies, by its starts
module _ (text starts : List ℕ) (i : ℕ) where
  pub by_starts : i + 1 < length starts → get_or starts i 0 ≤ get_or starts (i + 1) 0 → get_or starts (i + 1) 0 ≤ length text → spanned text starts i ≡ true
  unfolding spanned
  by_starts h f o = every_of _ (lt-ltb _ _ h, (le-leb _ _ f, (le-leb _ _ o, tt)))

-- one stand's place and score
module _ (east north : List ℤ) (score : List ℕ) (g : Grid) (i : ℕ) where
  pub stand_off : in_grid g (place_in east north i) ≡ false → stand_lawful east north score g i ≡ false
  unfolding stand_lawful
  stand_off h = rw h

  pub stand-over : 1000 < get_or score i 0 → stand_lawful east north score g i ≡ false
  unfolding stand_lawful
  stand-over h = rw (lt-leb _ _ h) (and-false (in_grid g (place_in east north i)))

  pub stand-in : in_grid g (place_in east north i) ≡ true → get_or score i 0 ≤ 1000 → stand_lawful east north score g i ≡ true
  unfolding stand_lawful
  stand-in h k = rw (h, le-leb _ _ k)

pub record Passed (t : Table) (g : Grid) : Type 0 where
  pub shape : shape_lawful t ≡ true
  pub limits : grid_lawful g ≡ true
  pub names : names_allowed t.text t.starts (stands t) ≡ true
  pub order : names_in_order t.text t.starts (stands t) ≡ true
  pub places : stands_lawful t.east t.north t.score g ≡ true

module _ (t : Table) where
  pub shape_parts : shape_lawful t ≡ true → Shaped t
  unfolding shape_lawful rising
  shape_parts e =
      let all_told : length t.starts ≡ stands t + 1 = eqb-true _ _ (every-at _ 3 e) in
      record {
        few = leb-true _ _ (every-at _ 0 e);
        easts = eqb-true _ _ (every-at _ 1 e);
        norths = eqb-true _ _ (every-at _ 2 e);
        bounds = all_told;
        first = eqb-true _ _ (every-at _ 4 e);
        forward = λ i h. leb-true _ _ (all-at _ (length t.starts - 1) i (every-at _ 5 e) (omega arith));
        last = eqb-true _ _ (every-at _ 6 e);
      }

  pub shape_holds : stands t ≤ 1024 → length t.east ≡ stands t → length t.north ≡ stands t → length t.starts ≡ stands t + 1
      → start_of t 0 ≡ 0 → rising t.starts ≡ true → start_of t (stands t) ≡ length t.text → shape_lawful t ≡ true
  unfolding shape_lawful
  shape_holds a b c d e f h = every_of _ (le-leb _ _ a, (eq-eqb _ _ b, (eq-eqb _ _ c, (eq-eqb _ _ d, (eq-eqb _ _ e, (f, (eq-eqb _ _ h, tt)))))))

module _ (t : Table) (g : Grid) where
  pub refused_shape : shape_lawful t ≡ false → 1 ≡ table_refusal t g
  unfolding table_refusal
  refused_shape a = rw a

  pub refused-grid : shape_lawful t ≡ true → grid_lawful g ≡ false → 2 ≡ table_refusal t g
  unfolding table_refusal
  refused-grid a b = rw (a, b)

  pub refused-name : shape_lawful t ≡ true → grid_lawful g ≡ true → names_allowed t.text t.starts (stands t) ≡ false → 3 ≡ table_refusal t g
  unfolding table_refusal
  refused-name a b c = rw (a, b, c)

  pub refused_order : shape_lawful t ≡ true → grid_lawful g ≡ true → names_allowed t.text t.starts (stands t) ≡ true
      → names_in_order t.text t.starts (stands t) ≡ false → 4 ≡ table_refusal t g
  unfolding table_refusal
  refused_order a b c d = rw (a, b, c, d)

  pub refused_place : shape_lawful t ≡ true → grid_lawful g ≡ true → names_allowed t.text t.starts (stands t) ≡ true
      → names_in_order t.text t.starts (stands t) ≡ true → stands_lawful t.east t.north t.score g ≡ false → 5 ≡ table_refusal t g
  unfolding table_refusal
  refused_place a b c d e = rw (a, b, c, d, e)

  pub not_refused : Passed t g → 0 ≡ table_refusal t g
  unfolding table_refusal
  not_refused p = rw (p.shape, p.limits, p.names, p.order, p.places)

  pub passed : table_refusal t g ≡ 0 → Passed t g
  unfolding table_refusal
  passed e =
      let a = missed (not (shape_lawful t)) (λ z. omega arith) e in
      let b = missed (not (grid_lawful g)) (λ z. omega arith) a.1 in
      let c = missed (not (names_allowed t.text t.starts (stands t))) (λ z. omega arith) b.1 in
      let d = missed (not (names_in_order t.text t.starts (stands t))) (λ z. omega arith) c.1 in
      let f = missed (not (stands_lawful t.east t.north t.score g)) (λ z. omega arith) d.1 in
      record { shape = not-false _ a.0; limits = not-false _ b.0; names = not-false _ c.0; order = not-false _ d.0; places = not-false _ f.0 }

  pub lawful : table_refusal t g ≡ 0 → LawfulTable t g
  unfolding names_allowed name_allowed names_in_order stand_lawful stands_lawful
  lawful e =
      let p = passed e in
      record {
        shaped = shape_parts t p.shape;
        gridded = p.limits;
        some = λ i h. leb-true _ _ (every-at _ 0 (all-at _ _ i p.names h));
        short = λ i h. leb-true _ _ (every-at _ 1 (all-at _ _ i p.names h));
        spelled = λ i h. every-at _ 2 (all-at _ _ i p.names h);
        ordered = λ i h. all-at _ (stands t - 1) i p.order (omega arith);
        placed = λ i h. and_left _ (leb (score_of t i) 1000) (all-at _ _ i p.places h);
        scored = λ i h. leb-true _ _ (and_right (in_grid g (place_of t i)) _ (all-at _ _ i p.places h));
      }

  -- so for a caller to whom Ok was answered
  pub granted : (v : Result Unit Refusal) → verdict_number v ≡ table_refusal t g → v ≡ Ok tt → LawfulTable t g
  granted v e l = lawful (sym e ∙ ap verdict_number l)

  -- and such a table is not refused
  pub taken : LawfulTable t g → table_refusal t g ≡ 0
  unfolding rising names_allowed name_allowed names_in_order stands_lawful
  taken l =
      let s = l.shaped in
      let up : rising t.starts ≡ true = all_of _ (length t.starts - 1) (λ k h. le-leb _ _ (s.forward k (omega arith))) in
      sym
      (not_refused
      record {
        shape = shape_holds t s.few s.easts s.norths s.bounds s.first up s.last;
        limits = l.gridded;
        names = all_of (λ i. name_allowed (name_of t i)) (stands t) (λ k h. name_bytes (name_of t k) (l.some k h) (l.short k h) ∙ l.spelled k h);
        order = all_of (λ i. in_order (name_of t i) (name_of t (i + 1))) (stands t - 1) (λ k h. l.ordered k (omega arith));
        places = all_of (stand_lawful t.east t.north t.score g) (stands t) (λ k h. stand-in _ _ _ _ _ (l.placed k h) (l.scored k h));
      })

  module _ (l : LawfulTable t g) where
    back : (k i : ℕ) → i + k ≡ stands t → start_of t i ≤ length t.text
    back zero i e = let q : i ≡ stands t = omega arith in rw (q, l.shaped.last) (omega arith)
    back (suc k) i e = omega (arith, l.shaped.forward i (omega arith), back k (i + 1) (omega arith))

    -- no start lies past the text's end
    pub start_inside : (i : ℕ) → i ≤ stands t → start_of t i ≤ length t.text
    start_inside i h = back (stands t - i) i (omega arith)

    -- a stand's name is the part of the text between its two starts
    pub name-part : (i : ℕ) → i < stands t → name_of t i ≡ take (start_of t (i + 1) - start_of t i) (drop (start_of t i) t.text)
    unfolding name
    name-part i h =
        let two : i + 1 < length t.starts = omega (arith, l.shaped.bounds) in
        rw (by_starts t.text t.starts i two (l.shaped.forward i h) (start_inside (i + 1) (omega arith)))

-- the parts of a lawful set
pub record SetParts (t : Table) (g : Grid) (x : Index) : Type 0 where
  pub table : LawfulTable t g
  pub order : begins (order_words t g) x.order ≡ true
  pub nodes : begins (node_words t g) x.nodes ≡ true
  pub entries : begins (entry_words t g) x.entries ≡ true
  pub bits : begins (bit_words t g) x.bits ≡ true

pub set_parts : (t : Table) (g : Grid) (x : Index) → set_lawful t g x ≡ true → SetParts t g x
unfolding set_lawful
set_parts t g x e =
    record {
      table = lawful t g (eqb-true _ _ (every-at _ 0 e));
      order = every-at _ 1 e;
      nodes = every-at _ 2 e;
      entries = every-at _ 3 e;
      bits = every-at _ 4 e;
    }
