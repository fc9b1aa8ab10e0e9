-- Trees of texts: strictly in order, and with each text its beginnings. A node is a text's place in the list.
-- A node's children, the way along them, and the tree that a list of names makes.
use Rattle.std.specs.Prelude.{◌≡◌, true, false, not, List, [], ◌∷◌, ◌++◌, ℕ, suc, ◌≤◌, ◌<◌, length, get_or}
use Rattle.base.specs.Lists.{up_to, keep, each, begins, In, Pairwise}
use Rattle.rules.specs.Names.{in_order}
use Rattle.rules.specs.Tables.{Table, stands, name_of}
use Rattle.rules.specs.Indexes.{beginnings_of, beginnings, last_byte, past_of}

-- each text strictly before all that follow
abbrev pub Sorted : List (List ℕ) → Type 0
Sorted l = Pairwise (λ x y. in_order y x ≡ false) l

pub record Tree (B : List (List ℕ)) : Type 0 where
  pub sorted : Sorted B
  pub closed : (p q : List ℕ) → In q B → begins p q ≡ true → In p B

-- node c is a child of node j: its text begins with j's and has one byte more
pub record Child (B : List (List ℕ)) (j c : ℕ) : Type 0 where
  pub inside : c < length B
  pub longer : length (get_or B c []) ≡ suc (length (get_or B j []))
  pub under : begins (get_or B j []) (get_or B c []) ≡ true

-- the numbers that a walk j + 1, past of that, .. meets within j's subtree
pub data OnWay (B : List (List ℕ)) (j : ℕ) : ℕ → Type 0 where
  first : suc j < past_of B j → OnWay B j (suc j)
  next : {c : ℕ} → OnWay B j c → past_of B c < past_of B j → OnWay B j (past_of B c)

-- a search along that way for the child with the byte b stands at c: c is a child or the end of j's subtree,
-- and the child with the byte b, if there is one, is not before c
pub record Looking (B : List (List ℕ)) (j b c : ℕ) : Type 0 where
  pub within : c ≤ past_of B j
  pub child : c < past_of B j → Child B j c
  pub rest : (k : ℕ) → Child B j k → last_byte (get_or B k []) ≡ b → c ≤ k

-- the text of node j of a table
abbrev pub text_of : Table → ℕ → List ℕ
text_of t j = get_or (beginnings t) j []

abbrev pub names_of : Table → List (List ℕ)
names_of t = each (name_of t) (up_to (stands t))

-- the beginnings of n that are no beginnings of m, which comes before it
abbrev pub fresh : List ℕ → List ℕ → List (List ℕ)
fresh m n = keep (λ p. not (begins p m)) (beginnings_of n)

-- what names add after the name m, each its new beginnings
abbrev pub trie_from : List ℕ → List (List ℕ) → List (List ℕ)
trie_from m [] = []
trie_from m (n ∷ ns) = fresh m n ++ trie_from n ns

abbrev pub trie_of : List (List ℕ) → List (List ℕ)
trie_of ns = [] ∷ trie_from [] ns

-- names in order, the first of them after m
abbrev pub Chain : List ℕ → List (List ℕ) → Type 0
Chain m [] = Unit {0}
Chain m (n ∷ ns) = (in_order m n ≡ true) × Chain n ns
