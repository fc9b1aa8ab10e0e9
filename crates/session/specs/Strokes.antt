-- A keystroke as the code makes it, on any words and any session; and where a session's letters came to.
use Rattle.std.specs.Prelude.{◌≡◌, Bool, Some, None, Result, Ok, Err, cond, not, ◌&&◌, List, ℕ, ◌+◌, ◌-◌, eqb, ltb, set, get_or}
use Rattle.rules.specs.declared.Session.{Session}
use Rattle.rules.specs.declared.Refusal.{Refusal}
use Rattle.rules.specs.declared.Refusal.TheVariants.{NotLawful, TextByteNotAllowed, TextTooLong, NothingToRubOut}
use Rattle.rules.specs.Names.{allowed}
use Rattle.walk.specs.Walks.{Child, broken, node, child_in}

-- what a keystroke by value comes to: the session after it, or why it is refused
abbrev pub Stroke : Type 0
Stroke = Result Session Refusal

-- whether it is taken, and the session that stands then, which is the old one where it is not
abbrev pub verdict : Stroke → Result Unit Refusal
verdict (Ok s) = Ok tt
verdict (Err why) = Err why

abbrev pub stands : Session → Stroke → Session
stands s (Ok s') = s'
stands s (Err why) = s

-- of a session, lent or by value, before and after
pub record Struck (r : Stroke) (s s' : Session) (v : Result Unit Refusal) : Type 0 where
  pub verdict : v ≡ verdict r
  pub session : s' ≡ stands s r

-- a 0 past some letters says that they led nowhere
unfoldable pub lost : ℕ → ℕ → Bool
lost letters last = not (eqb letters 0) && eqb last 0

-- where one more letter leads from the node of the letters so far; none leads on from nowhere
unfoldable pub next_on : List ℕ → ℕ → ℕ → ℕ → Child
next_on nodes letters last b = cond (lost letters last) (Ok None) (child_in nodes last b)

-- a letter more and a letter less, with its place of the path
unfoldable pub lengthened : Session → ℕ → ℕ → Session
lengthened s b n = record { text = set s.text s.len b; len = s.len + 1; path = set s.path (s.len + 1) n }

unfoldable pub shortened : Session → Session
shortened s = record { text = set s.text (s.len - 1) 0; len = s.len - 1; path = set s.path s.len 0 }

-- the letter is kept where it leads nowhere too; broken words are refused
abbrev pub led_to : Child → Result ℕ Refusal
led_to (Ok (Some n)) = Ok n.0
led_to (Ok None) = Ok 0
led_to (Err e) = Err NotLawful

-- where a letter leads behind so many
unfoldable pub led_on : List ℕ → ℕ → ℕ → ℕ → Result ℕ Refusal
led_on nodes letters last b =
    cond (ltb 24 letters) (Err NotLawful)
    (cond (eqb letters 24) (Err TextTooLong)
    (cond (not (allowed b)) (Err TextByteNotAllowed)
    (led_to (next_on nodes letters last b))))

abbrev pub struck : Session → ℕ → Result ℕ Refusal → Stroke
struck s b (Ok n) = Ok (lengthened s b n)
struck s b (Err why) = Err why

abbrev pub arrived : Session → ℕ → Child → Stroke
arrived s b c = struck s b (led_to c)

unfoldable pub typed_on : List ℕ → Session → ℕ → Stroke
typed_on nodes s b = struck s b (led_on nodes s.len (get_or s.path s.len 0) b)

unfoldable pub rubbed_out : Session → Stroke
rubbed_out s =
    cond (ltb 24 s.len) (Err NotLawful)
    (cond (eqb s.len 0) (Err NothingToRubOut)
    (Ok (shortened s)))

-- where the letters came to, by the path
unfoldable pub reached : Session → Child
reached s =
    cond (ltb 24 s.len) (Err broken)
    (cond (lost s.len (get_or s.path s.len 0)) (Ok None)
    (Ok (Some (node (get_or s.path s.len 0)))))
