-- Lists, as the finder's definitions use them: runs of numbers, tests, filters, sums, sorts.
-- `cond`, `&&`, `||`, `length`, `take`, `drop` and `get_or` are the library's; where the library has a list function by another name, ours is
-- that one, so that a chain of iterators is proved to compute it.
use Rattle.std.specs.List.{list_all, filter}
use mathlib.Core.List.{map}
use Rattle.std.specs.Prelude.{◌≡◌, ◌⊎◌, Bool, true, false, cond, ◌&&◌, ◌||◌, List, [], ◌∷◌, ◌++◌, ℕ, zero, suc, ◌+◌, eqb, ltb, length, drop}

-- n numbers from a on: a, a + 1, ..
abbrev pub from_on : ℕ → ℕ → List ℕ
from_on a zero = []
from_on a (suc n) = a ∷ from_on (suc a) n

-- 0, 1, .., n - 1
abbrev pub up_to : ℕ → List ℕ
up_to n = from_on 0 n

-- x is an element of the list
abbrev pub In : {A : Type 0} → A → List A → Type 0
In x [] = ⊥
In x (y ∷ l) = (x ≡ y) ⊎ In x l

-- each member stands so to all that follow it
abbrev pub Pairwise : {A : Type 0} → (A → A → Type 0) → List A → Type 0
Pairwise R [] = Unit {0}
Pairwise {A} R (x ∷ l) = ((y : A) → In y l → R x y) × Pairwise R l

-- those that pass the test, in their order
abbrev pub keep : {A : Type 0} → (A → Bool) → List A → List A
keep p xs = filter p xs

-- whether every element passes the test
abbrev pub all : {A : Type 0} → (A → Bool) → List A → Bool
all p xs = list_all p xs

-- whether each of these tests holds
unfoldable pub every : List Bool → Bool
every [] = true
every (b ∷ bs) = b && every bs

-- f of each element
abbrev pub each : {A B : Type 0} → (A → B) → List A → List B
each f xs = map f xs

-- the lists that f gives, one after the other
abbrev pub each_list : {A B : Type 0} → (A → List B) → List A → List B
each_list f [] = []
each_list f (x ∷ xs) = f x ++ each_list f xs

abbrev pub total : List ℕ → ℕ
total [] = 0
total (x ∷ xs) = x + total xs

-- 0 of none
abbrev pub largest : List ℕ → ℕ
largest [] = 0
largest (x ∷ xs) = cond (ltb x (largest xs)) (largest xs) x

-- 0 of none
abbrev pub first_of : List ℕ → ℕ
first_of [] = 0
first_of (x ∷ xs) = x

abbrev pub is_empty : {A : Type 0} → List A → Bool
is_empty [] = true
is_empty (x ∷ xs) = false

abbrev pub same_list : List ℕ → List ℕ → Bool
same_list [] [] = true
same_list [] (y ∷ ys) = false
same_list (x ∷ xs) [] = false
same_list (x ∷ xs) (y ∷ ys) = eqb x y && same_list xs ys

-- whether the second list begins with the first
abbrev pub begins : List ℕ → List ℕ → Bool
begins [] n = true
begins (a ∷ p) [] = false
begins (a ∷ p) (b ∷ n) = eqb a b && begins p n

-- how many elements two lists share at their beginnings
abbrev pub shared_length : List ℕ → List ℕ → ℕ
shared_length [] n = 0
shared_length (a ∷ m) [] = 0
shared_length (a ∷ m) (b ∷ n) = cond (eqb a b) (suc (shared_length m n)) 0

-- where x stands in the list; its length where it doesn't
abbrev pub position_in : ℕ → List ℕ → ℕ
position_in x [] = 0
position_in x (y ∷ ys) = cond (eqb x y) 0 (suc (position_in x ys))

-- a room after these words are written at its start
abbrev pub written : List ℕ → List ℕ → List ℕ
written words room = words ++ drop (length words) room

-- whether a goes before b: the larger f first, and where those are equal the smaller g
abbrev pub leads : {A : Type 0} → (A → ℕ) → (A → ℕ) → A → A → Bool
leads f g a b = ltb (f b) (f a) || eqb (f a) (f b) && ltb (g a) (g b)

-- x put before the first that it goes before
abbrev pub insert_by : {A : Type 0} → (A → A → Bool) → A → List A → List A
insert_by before x [] = x ∷ []
insert_by before x (y ∷ ys) = cond (before x y) (x ∷ y ∷ ys) (y ∷ insert_by before x ys)

abbrev pub sort_by : {A : Type 0} → (A → A → Bool) → List A → List A
sort_by before [] = []
sort_by before (x ∷ xs) = insert_by before x (sort_by before xs)
