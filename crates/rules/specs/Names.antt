-- Names: which are allowed, how they are ordered, where they lie in a table's text, and what is left after a typed text.
-- A name, a typed text and a table's text are lists of bytes. A typed text may have capitals, which are read as small letters; a name may not.
use Rattle.std.specs.Prelude.{Bool, true, false, cond, not, ◌&&◌, ◌||◌, List, [], ◌∷◌, ℕ, ◌+◌, ◌-◌, eqb, ltb, leb, length, get_or, take, drop}
use Rattle.base.specs.Lists.{all, every, each, begins}

-- a to z, 0 to 9, space
unfoldable pub allowed : ℕ → Bool
allowed b = leb 97 b && leb b 122 || leb 48 b && leb b 57 || eqb b 32

-- A to Z
unfoldable pub capital : ℕ → Bool
capital b = leb 65 b && leb b 90

-- a typed byte as it is read: A to Z as a to z, every other byte as itself
unfoldable pub folded : ℕ → ℕ
folded b = cond (capital b) (b + 32) b

abbrev pub folded_text : List ℕ → List ℕ
folded_text p = each folded p

-- 1 to 24 bytes, each allowed
unfoldable pub name_allowed : List ℕ → Bool
name_allowed n = every (leb 1 (length n) ∷ leb (length n) 24 ∷ all allowed n ∷ [])

-- the first of 9 and 8 that letters are refused with, or 0; a typed text is folded before
unfoldable pub text_refusal : List ℕ → ℕ
text_refusal p = cond (ltb 24 (length p)) 9 (cond (not (all allowed p)) 8 0)

-- byte order, a shorter name before a longer one that begins with it; equal names are in order
abbrev pub in_order : List ℕ → List ℕ → Bool
in_order [] n = true
in_order (a ∷ m) [] = false
in_order (a ∷ m) (b ∷ n) = ltb a b || eqb a b && in_order m n

-- whether stand i has two starts, which neither fall nor pass the text's end
unfoldable pub spanned : List ℕ → List ℕ → ℕ → Bool
spanned text starts i =
    every
    (ltb (i + 1) (length starts)
    ∷ leb (get_or starts i 0) (get_or starts (i + 1) 0)
    ∷ leb (get_or starts (i + 1) 0) (length text)
    ∷ [])

-- stand i's name, the part of the text between its starts; without two such starts the empty part at the text's start
unfoldable pub name : List ℕ → List ℕ → ℕ → List ℕ
name text starts i = cond (spanned text starts i) (take (get_or starts (i + 1) 0 - get_or starts i 0) (drop (get_or starts i 0) text)) []

unfoldable pub name_at : List ℕ → List ℕ → ℕ → ℕ
name_at text starts i = cond (spanned text starts i) (get_or starts i 0) 0

-- the rest of stand i's name after a typed text, and where it begins; where the name doesn't begin so, the empty part at the text's start
unfoldable pub rest_of : List ℕ → List ℕ → ℕ → List ℕ → List ℕ
rest_of text starts i typed = cond (begins (folded_text typed) (name text starts i)) (drop (length typed) (name text starts i)) []

unfoldable pub rest_at : List ℕ → List ℕ → ℕ → List ℕ → ℕ
rest_at text starts i typed = cond (begins (folded_text typed) (name text starts i)) (name_at text starts i + length typed) 0
