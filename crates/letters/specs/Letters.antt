-- What the letters of a session are refused with, whatever the session holds.
use Rattle.std.specs.Prelude.{cond, ℕ, ltb}
use Rattle.rules.specs.declared.Session.{Session}
use Rattle.rules.specs.Names.{folded_text, text_refusal}
use Rattle.rules.specs.Sessions.{letters_of}

-- 7 for a length that no session has, else as any text is: 8 or 0
unfoldable pub letters_refusal : Session → ℕ
letters_refusal s = cond (ltb 24 s.len) 7 (text_refusal (folded_text (letters_of s)))
