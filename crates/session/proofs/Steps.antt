-- A keystroke's outcomes, each by the tests that lead to it, on any words and any session.
-- Assumes nothing.
use mathlib.Core.Path.{◌≡◌, refl, sym, ap, ◌∙◌}
use mathlib.Core.Bool.{true, false}
use mathlib.Core.List.{List}
use Prim.Native.Nat.{ℕ, ◌<◌, ◌≤◌}
use native.Mathlib.Omega.{arith}
use lib.Dec.{eqb}
use lib.ListN.{get_or}
use borrow.Author.Tests.{lt-ltb, le-ltb, eq-eqb, ne_eqb}
use Rattle.std.specs.Prelude.{Result, Some, None, Ok, Err}
use Rattle.rules.specs.declared.Refusal.{Refusal}
use Rattle.rules.specs.declared.Session.{Session}
use Rattle.rules.specs.declared.Refusal.TheVariants.{NotLawful, TextByteNotAllowed, TextTooLong, NothingToRubOut}
use Rattle.rules.specs.Names.{allowed}
use Rattle.walk.specs.Walks.{node, child_in}
use Rattle.session.specs.Strokes.{Stroke, Struck, verdict, stands, lost, next_on, shortened, led_to, led_on, struck, arrived, typed_on, rubbed_out, reached}

-- ---- where the letters led, and where one more leads

module _ (letters last : ℕ) where
  pub lost_none : letters ≡ 0 → lost letters last ≡ false
  unfolding lost
  lost_none none = rw (eq-eqb letters 0 none)

  pub lost_some : (letters ≡ 0 → ⊥) → lost letters last ≡ eqb last 0
  unfolding lost
  lost_some some = rw (ne_eqb letters 0 some)

  module _ (nodes : List ℕ) (b : ℕ) where
    pub next_nowhere : lost letters last ≡ true → next_on nodes letters last b ≡ Ok None
    unfolding next_on
    next_nowhere gone = rw gone

    pub next_child : lost letters last ≡ false → next_on nodes letters last b ≡ child_in nodes last b
    unfolding next_on
    next_child on = rw on

module _ (s : Session) where
  module _ (h : s.len ≤ 24) where
    pub reached_nowhere : lost s.len (get_or s.path s.len 0) ≡ true → reached s ≡ Ok None
    unfolding reached
    reached_nowhere gone = rw (le-ltb 24 s.len h, gone)

    pub reached-node : lost s.len (get_or s.path s.len 0) ≡ false → reached s ≡ Ok (Some (node (get_or s.path s.len 0)))
    unfolding reached
    reached-node on = rw (le-ltb 24 s.len h, on)

-- ---- typing

module _ (nodes : List ℕ) (letters last b : ℕ) where
  pub led_over : 24 < letters → led_on nodes letters last b ≡ Err NotLawful
  unfolding led_on
  led_over h = rw (lt-ltb 24 letters h)

  pub led_full : letters ≡ 24 → led_on nodes letters last b ≡ Err TextTooLong
  unfolding led_on
  led_full h = rw (le-ltb 24 letters (omega arith), eq-eqb letters 24 h)

  module _ (room : letters < 24) where
    pub led_unallowed : allowed b ≡ false → led_on nodes letters last b ≡ Err TextByteNotAllowed
    unfolding led_on
    led_unallowed h = rw (le-ltb 24 letters (omega arith), ne_eqb letters 24 (λ e. omega arith), h)

    pub led_on_lem : allowed b ≡ true → led_on nodes letters last b ≡ led_to (next_on nodes letters last b)
    unfolding led_on
    led_on_lem h = rw (le-ltb 24 letters (omega arith), ne_eqb letters 24 (λ e. omega arith), h)

pub typed_led : (nodes : List ℕ) (s : Session) (letter b : ℕ) (r : Result ℕ Refusal) → letter ≡ b → r ≡ led_on nodes s.len (get_or s.path s.len 0) letter
    → struck s letter r ≡ typed_on nodes s b
unfolding typed_on
typed_led nodes s letter b r e h = ap (struck s letter) h ∙ ap (typed_on nodes s) e

module _ (nodes : List ℕ) (s : Session) (b : ℕ) where
  typed_on_lem : (r : Result ℕ Refusal) → r ≡ led_on nodes s.len (get_or s.path s.len 0) b → struck s b r ≡ typed_on nodes s b
  typed_on_lem r e = typed_led nodes s b b r refl e

  pub typed_over : 24 < s.len → typed_on nodes s b ≡ Err NotLawful
  typed_over h = sym (typed_on_lem _ (sym (led_over nodes s.len _ b h)))

  pub typed_full : s.len ≡ 24 → typed_on nodes s b ≡ Err TextTooLong
  typed_full h = sym (typed_on_lem _ (sym (led_full nodes s.len _ b h)))

  module _ (room : s.len < 24) where
    pub typed_unallowed : allowed b ≡ false → typed_on nodes s b ≡ Err TextByteNotAllowed
    typed_unallowed h = sym (typed_on_lem _ (sym (led_unallowed nodes s.len _ b room h)))

    pub typed_arrived : allowed b ≡ true → typed_on nodes s b ≡ arrived s b (next_on nodes s.len (get_or s.path s.len 0) b)
    typed_arrived h = sym (typed_on_lem _ (sym (led_on_lem nodes s.len _ b room h)))

-- ---- what is seen of a stroke in the session lent

pub struck_by : (s : Session) (r whole : Stroke) → r ≡ whole → Struck whole s (stands s r) (verdict r)
struck_by s r whole e = record { verdict = ap verdict e; session = ap (stands s) e }

-- ---- rubbing out

module _ (s : Session) where
  pub rubbed_over : 24 < s.len → rubbed_out s ≡ Err NotLawful
  unfolding rubbed_out
  rubbed_over h = rw (lt-ltb 24 s.len h)

  pub rubbed_none : s.len ≡ 0 → rubbed_out s ≡ Err NothingToRubOut
  unfolding rubbed_out
  rubbed_none h = rw (le-ltb 24 s.len (omega arith), eq-eqb s.len 0 h)

  pub rubbed_last : s.len ≤ 24 → (s.len ≡ 0 → ⊥) → rubbed_out s ≡ Ok (shortened s)
  unfolding rubbed_out
  rubbed_last h k = rw (le-ltb 24 s.len h, ne_eqb s.len 0 k)
