-- What lines are made of, by how it is written: quoted text, numbers in decimal, a key and a value. Bytes are numbers, in ASCII.
use Rattle.std.specs.Prelude.{Bool, true, false, List, [], ◌∷◌, ◌++◌, ℕ, zero, suc, ◌+◌, ◌/◌, ◌%◌, ◌<◌, ℤ, pos, negsuc, ltb}
use Prim.Native.Char.{code}
use Prim.Native.String.{String, [] as end, ◌∷◌ as ◌and◌}
use Rattle.base.specs.Lists.{In}

-- the bytes of a quoted text
abbrev pub ascii : String → List ℕ
ascii end = []
ascii (c and s) = code c ∷ ascii s

-- the digits of n, the last of which is n % 10; `alone` says whether n is its only digit. There is room for each
unfoldable pub digits_of : Bool → ℕ → ℕ → List ℕ
digits_of alone zero n = []
digits_of true (suc room) n = (48 + n) ∷ []
digits_of false (suc room) n = digits_of (ltb (n / 10) 10) room (n / 10) ++ ((48 + n % 10) ∷ [])

-- n in decimal, with no leading zero: it has no more than n + 1 digits
unfoldable pub decimal_of : ℕ → List ℕ
decimal_of n = digits_of (ltb n 10) (suc n) n

-- with a "-" before a negative number, of which the first is −1
unfoldable pub signed_of : ℤ → List ℕ
signed_of (pos n) = decimal_of n
signed_of (negsuc n) = ascii "-" ++ decimal_of (suc n)

-- a key and its value, ended by one line feed
unfoldable pub line : List ℕ → List ℕ → List ℕ
line key value = key ++ (value ++ ascii "\n")

-- a signed 32-bit number
unfoldable pub Signed32 : ℤ → Type 0
Signed32 (pos n) = n < 2147483648
Signed32 (negsuc n) = n < 2147483648

-- any bytes but line feed
abbrev pub OneLine : List ℕ → Type 0
OneLine bytes = In 10 bytes → ⊥
