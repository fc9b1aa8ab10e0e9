-- The session of a text: its letters, its path place by place, and what one letter more and one less make of it.
-- Assumes nothing.
use mathlib.Core.Path.{◌≡◌, refl, sym, ap, ◌∙◌}
use mathlib.Core.Logic.{inl, ⊎_elim}
use mathlib.Core.List.{List, [], ◌∷◌, ◌++◌, append_assoc}
use Prim.Native.Nat.{ℕ, zero, suc, ◌+◌, ◌-◌, ◌≤◌, ◌<◌}
use native.Mathlib.Omega.{arith}
use native.Mathlib.Numerals.{add-one}
use lib.ListN.{length, take, get_or, set, replicate, length-append, length-take, get_or-eq_default}
use lib.Seq.{take_all, take-length, take-suc, take-append_seam, take-append-le, get_or-append-add, set-append_seam, set-get_or, set-set}
use borrow.Author.Tests.{le-leb, lt-leb}
use Rattle.base.specs.Lists.{up_to, each, In}
use Rattle.base.proofs.Tests.{le_or_lt}
use Rattle.base.proofs.Members.{length-each, replicate_at}
use Rattle.base.proofs.Runs.{length_from, get_or-each_from, each_constant, set-each}
use Rattle.rules.specs.declared.Session.{Session}
use Rattle.rules.specs.Tables.{Table}
use Rattle.rules.specs.Names.{text_refusal}
use Rattle.rules.specs.Indexes.{beginnings, but_last}
use Rattle.rules.specs.Sessions.{node_or0, path_at, session_of, fresh_session, letters_of, LawfulSession}
use Rattle.meaning.proofs.Tree.{number_in_lem}
use Rattle.meaning.proofs.Tables.{root_first}
use Rattle.meaning.proofs.Walking.{node_in}
use Rattle.session.specs.Strokes.{lengthened, shortened}

-- ---- a text with zeros behind it, in n places

module _ (n : ℕ) (p : List ℕ) where
  padded_behind : get_or (p ++ replicate (n - length p) 0) (length p) 0 ≡ 0
  padded_behind =
      let e : length p ≡ length p + 0 = omega arith in
      ap (λ (k : ℕ). get_or (p ++ replicate (n - length p) 0) k 0) e ∙ get_or-append-add p (replicate (n - length p) 0) 0 0 ∙ replicate_at (n - length p) 0 0

  padded_typed : (b : ℕ) → length p < n → set (p ++ replicate (n - length p) 0) (length p) b ≡ (p ++ (b ∷ [])) ++ replicate (n - length (p ++ (b ∷ []))) 0
  padded_typed b h =
      let e : n - length p ≡ suc (n - suc (length p)) = omega arith in
      let l : length (p ++ (b ∷ [])) ≡ suc (length p) = simp length-append (omega arith) in
      ap (λ (m : ℕ). set (p ++ replicate m 0) (length p) b) e
      ∙ set-append_seam p 0 (replicate (n - suc (length p)) 0) b
      ∙ rw (append_assoc p (b ∷ []) (replicate (n - length (p ++ (b ∷ []))) 0), l)

-- ---- the path

-- the empty text's node is the root, and no other text's is
root-node : (t : Table) → node_or0 t [] ≡ 0
unfolding beginnings
root-node t = node_in t [] (inl refl)

pub node_some : (t : Table) (p : List ℕ) → In p (beginnings t) → 0 < length p → node_or0 t p ≡ 0 → ⊥
node_some t p h some z =
    let e : [] ≡ p = sym (root_first t).1 ∙ ap (λ (j : ℕ). get_or (beginnings t) j []) (sym z ∙ node_in t p h) ∙ (number_in_lem p (beginnings t) h).1 in
    omega (arith, ap length e)

module _ (t : Table) (p : List ℕ) where
  path_behind : (i : ℕ) → length p < i → path_at t p i ≡ 0
  path_behind i h = rw (lt-leb i (length p) h)

  path_inside : (i : ℕ) → i ≤ length p → path_at t p i ≡ node_or0 t (take i p)
  path_inside i h = rw (le-leb i (length p) h)

  -- at each place of the session's path; also where there is none
  pub path_at_lem : length p ≤ 24 → (i : ℕ) → get_or (session_of t p).path i 0 ≡ path_at t p i
  unfolding session_of
  path_at_lem short i =
      ⊎_elim
      (λ (h : 25 ≤ i).
      let e : length (each (path_at t p) (up_to 25)) ≤ i = omega (arith, length-each (path_at t p) (up_to 25), length_from 0 25) in
      get_or-eq_default (each (path_at t p) (up_to 25)) 0 e ∙ sym (path_behind i (omega arith)))
      (λ (h : i < 25). let z : 0 + i ≡ i = omega arith in get_or-each_from (path_at t p) 0 25 i 0 h ∙ ap (path_at t p) z)
      (le_or_lt 25 i)

  -- at the text's length it is the text's node, or 0
  pub path_last : length p ≤ 24 → get_or (session_of t p).path (session_of t p).len 0 ≡ node_or0 t p
  unfolding session_of
  path_last short = path_at_lem short (length p) ∙ path_inside (length p) (omega arith) ∙ ap (node_or0 t) (take-length p)

-- ---- its letters

module _ (t : Table) (p : List ℕ) where
  pub len_of : (session_of t p).len ≡ length p
  unfolding session_of
  len_of = refl

  pub letters_of_lem : letters_of (session_of t p) ≡ p
  unfolding session_of
  letters_of_lem = take-append_seam p (replicate (24 - length p) 0)

  -- so it is lawful where the text is allowed
  pub session-lawful : text_refusal p ≡ 0 → LawfulSession t (session_of t p)
  session-lawful h = record { allowed = rw letters_of_lem h; same = rw letters_of_lem }

-- how many letters a lawful session has
pub lawful_len : (t : Table) (s : Session) → LawfulSession t s → s.len ≡ length (letters_of s)
lawful_len t s l = ap (λ (u : Session). u.len) l.same ∙ len_of t (letters_of s)

-- no letter is the fresh session, whatever the table
pub fresh_is : (t : Table) → fresh_session ≡ session_of t []
unfolding session_of
fresh_is t = λ i. record { text = replicate 24 0; len = 0; path = sym (each_constant (path_at t []) 0 none 0 25) i }
  where
    none : (i : ℕ) → path_at t [] i ≡ 0
    none zero = root-node t
    none (suc i) = path_behind t [] (suc i) (omega arith)

-- ---- one letter more, and one less

module _ (t : Table) (p : List ℕ) (b : ℕ) where
  abbrev q : List ℕ
  q = p ++ (b ∷ [])

  longer : length q ≡ suc (length p)
  longer = simp length-append (omega arith)

  -- it changes one place of the path
  path_other : (i : ℕ) → (i ≡ suc (length p) → ⊥) → path_at t p i ≡ path_at t q i
  path_other i other =
      ⊎_elim
      (λ (h : i ≤ length p). rw (le-leb i (length p) h, le-leb i (length q) (omega (arith, longer)), take-append-le i p (b ∷ []) h))
      (λ (h : length p < i). rw (lt-leb i (length p) h, lt-leb i (length q) (omega (arith, longer))))
      (le_or_lt i (length p))

  path_new : node_or0 t q ≡ path_at t q (suc (length p))
  path_new = rw (le-leb (suc (length p)) (length q) (omega (arith, longer)), take_all (suc (length p)) q (omega (arith, longer)))

  pub session_longer : length p < 24 → lengthened (session_of t p) b (node_or0 t q) ≡ session_of t q
  unfolding session_of lengthened
  session_longer room = λ i. record {
    text = padded_typed 24 p b room i;
    len = (add-one (length p) ∙ sym longer) i;
    path = (ap (λ (k : ℕ). set (each (path_at t p) (up_to 25)) k (node_or0 t q)) (add-one (length p)) ∙ set-each (path_at t p) (path_at t q) 25 (suc (length p)) (node_or0 t q) path_new path_other) i;
  }

-- a place set and set back to the 0 that it was
set_back : (l : List ℕ) (i b : ℕ) → get_or l i 0 ≡ 0 → set (set l i b) i 0 ≡ l
set_back l i b h = set-set l i b 0 ∙ ap (set l i) (sym h) ∙ set-get_or l i 0

-- rubbing out undoes typing where nothing stood behind the letters
pub shorter_longer : (s : Session) (b n : ℕ) → get_or s.text s.len 0 ≡ 0 → get_or s.path (s.len + 1) 0 ≡ 0 → shortened (lengthened s b n) ≡ s
unfolding shortened lengthened
shorter_longer s b n h k =
    let e : s.len + 1 - 1 ≡ s.len = omega arith in
    λ i. record {
      text = (ap (λ (m : ℕ). set (set s.text s.len b) m 0) e ∙ set_back s.text s.len b h) i;
      len = e i;
      path = set_back s.path (s.len + 1) n k i;
    }

-- as nothing does behind a text with room for more
pub session_back : (t : Table) (p : List ℕ) → length p < 24 → (b n : ℕ) → shortened (lengthened (session_of t p) b n) ≡ session_of t p
unfolding session_of
session_back t p room b n =
    shorter_longer (session_of t p) b n (padded_behind 24 p) (path_at_lem t p (omega arith) (length p + 1) ∙ path_behind t p (length p + 1) (omega arith))

pub session_shorter : (t : Table) (p : List ℕ) → 0 < length p → length p ≤ 24 → shortened (session_of t p) ≡ session_of t (but_last p)
session_shorter t p some short =
    let e : suc (length p - 1) ≡ length p = omega arith in
    let b : ℕ = get_or p (length p - 1) 0 in
    let whole : p ≡ but_last p ++ (b ∷ []) = sym (take-length p) ∙ ap (λ (k : ℕ). take k p) (sym e) ∙ take-suc p (length p - 1) 0 (omega arith) in
    let room : length (but_last p) < 24 = simp length-take (omega arith) in
    ap (λ (l : List ℕ). shortened (session_of t l)) whole
    ∙ ap shortened (sym (session_longer t (but_last p) b room))
    ∙ session_back t (but_last p) room b (node_or0 t (but_last p ++ (b ∷ [])))
