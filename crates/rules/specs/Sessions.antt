-- The session of a text: its bytes, its length, and the node of each of its beginnings; zeros behind.
-- What a keystroke is refused with, and which letters stand after it.
use Rattle.std.specs.Prelude.{◌≡◌, cond, List, [], ◌∷◌, ◌++◌, ℕ, ◌-◌, eqb, leb, ltb, length, take, replicate}
use Rattle.base.specs.Lists.{up_to, each, is_empty}
use Rattle.rules.specs.declared.Session.{Session}
use Rattle.rules.specs.Names.{allowed, folded, text_refusal}
use Rattle.rules.specs.Tables.{Table}
use Rattle.rules.specs.Indexes.{beginnings, number_in, but_last}

-- the node of a text, or 0 where there is none
abbrev pub node_or0 : Table → List ℕ → ℕ
node_or0 t p = cond (ltb (number_in p (beginnings t)) (length (beginnings t))) (number_in p (beginnings t)) 0

-- at place i the node of the first i bytes; 0 past the text
abbrev pub path_at : Table → List ℕ → ℕ → ℕ
path_at t p i = cond (leb i (length p)) (node_or0 t (take i p)) 0

unfoldable pub session_of : Table → List ℕ → Session
session_of t p = record { text = p ++ replicate (24 - length p) 0; len = length p; path = each (path_at t p) (up_to 25) }

abbrev pub fresh_session : Session
fresh_session = record { text = replicate 24 0; len = 0; path = replicate 25 0 }

abbrev pub letters_of : Session → List ℕ
letters_of s = take s.len s.text

-- a session is lawful if its letters are allowed and it is what typing them gives
pub record LawfulSession (t : Table) (s : Session) : Type 0 where
  pub allowed : text_refusal (letters_of s) ≡ 0
  pub same : s ≡ session_of t (letters_of s)

-- typing a byte after the letters p: 9, then 8, or 0; and the letters that then stand, a capital as its small letter
unfoldable pub type_refusal : List ℕ → ℕ → ℕ
type_refusal p b = cond (leb 24 (length p)) 9 (cond (allowed (folded b)) 0 8)

abbrev pub letters_typed : List ℕ → ℕ → List ℕ
letters_typed p b = cond (eqb (type_refusal p b) 0) (p ++ (folded b ∷ [])) p

-- rubbing out: 10 where there is no letter, or 0
abbrev pub rub_refusal : List ℕ → ℕ
rub_refusal p = cond (is_empty p) 10 0

abbrev pub letters_rubbed : List ℕ → List ℕ
letters_rubbed p = but_last p
