-- What the code computes: readers of bytes that give what they got and the bytes behind it, or nothing.
-- That they take exactly what Writing writes is said in Back.
use Rattle.std.specs.Prelude.{Option, Some, None, Bool, true, false, cond, not, List, [], ◌∷◌, ℕ, zero, suc, ◌+◌, ◌-◌, ◌*◌, ℤ, pos, negsuc, eqb, leb, ltb, length, take, drop}
use Rattle.base.specs.Lists.{every, begins, position_in}
use Rattle.lines.specs.Writing.{ascii}

abbrev pub Got : Type 0 → Type 0
Got A = Option (A × List ℕ)

abbrev pub got : {A : Type 0} → A → List ℕ → Got A
got a rest = Some (a, rest)

abbrev pub Reader : Type 0 → Type 0
Reader A = List ℕ → Got A

-- one reader and then another, from where the first left off
unfoldable pub onward : {A B : Type 0} → Got A → (A → Reader B) → Got B
onward (Some (a, rest)) f = f a rest
onward None f = None

infixl 20 ◌>>=◌
abbrev pub ◌>>=◌ : {A B : Type 0} → Reader A → (A → Reader B) → Reader B
(read >>= f) l = onward (read l) f

-- the bytes before the first line feed
unfoldable pub to_feed : Reader (List ℕ)
to_feed l =
    let at : ℕ = position_in 10 l in
    cond (ltb at (length l)) (got (take at l) (drop (suc at) l)) None

-- a line with this key, whose value may be any bytes
unfoldable pub bytes_line : List ℕ → Reader (List ℕ)
bytes_line key l = cond (begins key l) (to_feed (drop (length key) l)) None

-- one with a value that is read by itself
abbrev pub valued : {A : Type 0} → Option A → Reader A
valued None l = None
valued (Some a) l = got a l

unfoldable pub value_line : {A : Type 0} → (List ℕ → Option A) → List ℕ → Reader A
value_line read key = do
  value ← bytes_line key
  valued (read value)

-- a number that goes on from `value` with the digits that are left, and stays at most `most`
abbrev pub grown : ℕ → ℕ → ℕ
grown value b = value * 10 + (b - 48)

unfoldable pub digit_fits : ℕ → ℕ → ℕ → Bool
digit_fits most value b = every (leb 48 b ∷ leb b 57 ∷ leb (grown value b) most ∷ [])

unfoldable pub grown_by : ℕ → ℕ → List ℕ → Option ℕ
grown_by most value [] = Some value
grown_by most value (b ∷ l) = cond (digit_fits most value b) (grown_by most (grown value b) l) None

-- whether there is a first digit, which is 0 only if it is the last
unfoldable pub well_led : List ℕ → Bool
well_led [] = false
well_led (b ∷ []) = true
well_led (b ∷ c ∷ l) = not (eqb b 48)

unfoldable pub decimal_in : ℕ → List ℕ → Option ℕ
decimal_in most l = cond (well_led l) (grown_by most 0 l) None

-- below 0; none for "-0"
abbrev pub negated : Option ℕ → Option ℤ
negated None = None
negated (Some zero) = None
negated (Some (suc n)) = Some (negsuc n)

abbrev pub positive : Option ℕ → Option ℤ
positive None = None
positive (Some n) = Some (pos n)

unfoldable pub signed_in : List ℕ → Option ℤ
signed_in l = cond (begins (ascii "-") l) (negated (decimal_in 2147483648 (drop 1 l))) (positive (decimal_in 2147483647 l))

abbrev pub unsigned_line : ℕ → List ℕ → Reader ℕ
unsigned_line most = value_line (decimal_in most)

abbrev pub signed_line : List ℕ → Reader ℤ
signed_line = value_line signed_in

abbrev pub done : {A : Type 0} → A → Reader A
done a = got a
