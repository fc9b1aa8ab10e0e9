-- What the definitions of the rules come to, in plain statements, so that nobody has to trust the shape of a definition.
-- TableMeans, at the end, puts them together: it holds of every table and grid that no refusal from 1 to 5 meets.
use Rattle.std.specs.Prelude.{◌≡◌, ◌⊎◌, true, List, [], ◌∷◌, ◌++◌, ℕ, ◌+◌, ◌-◌, ◌*◌, ◌≤◌, ◌<◌, min, length, take, drop, get_or}
use Rattle.base.specs.Lists.{keep, begins, In}
use Rattle.base.specs.Bits.{bit_at}
use Rattle.rules.specs.declared.Grid.{Grid}
use Rattle.rules.specs.declared.Rect.{Rect}
use Rattle.rules.specs.declared.Ranking.{Ranking}
use Rattle.rules.specs.declared.Hit.{Hit}
use Rattle.rules.specs.Places.{regions, in_rect}
use Rattle.rules.specs.Tables.{Table, stands, name_of, place_of, score_of}
use Rattle.rules.specs.Questions.{under, region_of_stand, in_region, range_list, hit_of, ranked_list}
use Rattle.rules.specs.Indexes.{order_words, beginnings, node_count, number_in, last_byte, but_last, past_of, node_words, Entry, entries_of, entry_row, entry_words, entry_count, bit_words, record_count}
use Rattle.rules.specs.Sessions.{node_or0}
use Rattle.meaning.specs.Trees.{Child, OnWay, text_of}

-- a stand of the table whose name begins with the text p
pub record StandUnder (t : Table) (p : List ℕ) (i : ℕ) : Type 0 where
  pub stand : i < stands t
  pub named : begins p (name_of t i) ≡ true

-- the stands under a text, by number
pub record UnderMeans (t : Table) (p : List ℕ) : Type 0 where
  -- each is in the list
  pub every : (i : ℕ) → StandUnder t p i → In i (under t p)
  -- and nothing else is
  pub only : (i : ℕ) → In i (under t p) → StandUnder t p i
  -- the numbers rise
  pub in_turn : (a b : ℕ) → a < b → b < length (under t p) → get_or (under t p) a 0 < get_or (under t p) b 0

-- ---- the beginnings are the nodes of the letter tree, in pre-order, children by rising byte

pub record BeginningsMean (t : Table) : Type 0 where
  -- node 0 is there, and is the empty text
  pub root : (0 < node_count t) × (text_of t 0 ≡ [])
  -- each beginning of each name is a node
  pub every : (i : ℕ) (p : List ℕ) → StandUnder t p i → In p (beginnings t)
  -- and nothing else is, but the empty text
  pub only : (p : List ℕ) → In p (beginnings t) → (p ≡ []) ⊎ ((i : ℕ) × StandUnder t p i)
  -- no text is there twice
  pub once : (j k : ℕ) → j < node_count t → k < node_count t → text_of t j ≡ text_of t k → j ≡ k
  -- a node's number is its place
  pub numbered : (j : ℕ) → j < node_count t → number_in (text_of t j) (beginnings t) ≡ j
  -- a node's text without its last byte is a node, with a smaller number
  pub parent : (j : ℕ) → 0 < j → j < node_count t → In (but_last (text_of t j)) (beginnings t) × (number_in (but_last (text_of t j)) (beginnings t) < j)
  -- a subtree is in one piece, from its node on to the number past it: each node below j stands there
  pub subtree : (j i : ℕ) → j < node_count t → i < node_count t → begins (text_of t j) (text_of t i) ≡ true → (j ≤ i) × (i < past_of (beginnings t) j)
  -- and no other does
  pub unbroken : (j i : ℕ) → j < node_count t → j ≤ i → i < past_of (beginnings t) j → (i < node_count t) × (begins (text_of t j) (text_of t i) ≡ true)
  -- the numbers j + 1, past of that, past of that one, .., short of j's own past, are the children of node j
  pub way : (j c : ℕ) → j < node_count t → (OnWay (beginnings t) j c → Child (beginnings t) j c) × (Child (beginnings t) j c → OnWay (beginnings t) j c)
  -- whose parent is j
  pub parents : (j c : ℕ) → j < node_count t → Child (beginnings t) j c → number_in (but_last (text_of t c)) (beginnings t) ≡ j
  -- of two children of a node the one with the smaller number has the smaller last byte
  pub children : (j c k : ℕ) → j < node_count t → Child (beginnings t) j c → Child (beginnings t) j k → c < k → last_byte (text_of t c) < last_byte (text_of t k)

-- the node of a typed text, as a session's path has it
pub record NodeMeans (t : Table) (p : List ℕ) : Type 0 where
  -- a text that begins a name has the node with that text
  pub found : (i : ℕ) → StandUnder t p i → (node_or0 t p < node_count t) × (text_of t (node_or0 t p) ≡ p)
  -- any other has none, which is told by 0
  pub missing : 0 < length p → ((i : ℕ) → StandUnder t p i → ⊥) → node_or0 t p ≡ 0

-- ---- lists of stands by region, then by number

abbrev pub RegionFirst : Grid → Table → ℕ → ℕ → Type 0
RegionFirst g t x y = (region_of_stand g t x < region_of_stand g t y) ⊎ ((region_of_stand g t x ≡ region_of_stand g t y) × (x < y))

pub record ListedByRegion (g : Grid) (t : Table) (wanted : ℕ → Type 0) (l : List ℕ) : Type 0 where
  -- each stand that is wanted is in the list
  pub every : (i : ℕ) → wanted i → In i l
  -- and nothing else is
  pub only : (i : ℕ) → In i l → wanted i
  -- none is there twice
  pub once : (a b : ℕ) → a < length l → b < length l → get_or l a 0 ≡ get_or l b 0 → a ≡ b
  -- of two places the earlier has the smaller region, or the same region and the smaller number
  pub in_turn : (a b : ℕ) → a < b → b < length l → RegionFirst g t (get_or l a 0) (get_or l b 0)

-- the stand order has each stand of the table once, by region, then by number
pub record OrderMeans (t : Table) (g : Grid) : Type 0 where
  pub listed : ListedByRegion g t (λ i. i < stands t) (order_words t g)
  pub whole : length (order_words t g) ≡ stands t

-- a range has exactly the stands under the text that are in the rectangle, each once, by region, then by number
abbrev pub RangeMeans : Table → Grid → List ℕ → Rect → Type 0
RangeMeans t g p r = ListedByRegion g t (λ i. StandUnder t p i × (in_rect r (place_of t i) ≡ true)) (range_list t g p r)

-- ---- a node's entries: one for each region that holds a stand under its text

abbrev pub no_entry : Entry
no_entry = record { region = 0; score = 0; first = 0; past = 0 }

abbrev pub entry_at : Table → Grid → List ℕ → ℕ → Entry
entry_at t g p a = get_or (entries_of t g p) a no_entry

pub record EntriesMean (t : Table) (g : Grid) (p : List ℕ) : Type 0 where
  -- the region of each stand under p has an entry
  pub every : (i : ℕ) → StandUnder t p i → (a : ℕ) × (a < length (entries_of t g p)) × ((entry_at t g p a).region ≡ region_of_stand g t i)
  -- and only one
  pub once : (a b : ℕ) → a < length (entries_of t g p) → b < length (entries_of t g p) → (entry_at t g p a).region ≡ (entry_at t g p b).region → a ≡ b
  -- the score is that of a stand under p in the region, so no region without one has an entry
  pub attained : (a : ℕ) → a < length (entries_of t g p)
      → (i : ℕ) × StandUnder t p i × (region_of_stand g t i ≡ (entry_at t g p a).region) × (score_of t i ≡ (entry_at t g p a).score)
  -- and none of them has a larger one
  pub largest : (a : ℕ) → a < length (entries_of t g p)
      → (i : ℕ) → StandUnder t p i → region_of_stand g t i ≡ (entry_at t g p a).region → score_of t i ≤ (entry_at t g p a).score
  -- first and past are places of the stand order, and the places from the first on, short of the past, hold exactly those stands, by number
  pub bounds : (a : ℕ) → a < length (entries_of t g p) → ((entry_at t g p a).first < (entry_at t g p a).past) × ((entry_at t g p a).past ≤ stands t)
  pub places : (a : ℕ) → a < length (entries_of t g p)
      → take ((entry_at t g p a).past - (entry_at t g p a).first) (drop (entry_at t g p a).first (order_words t g)) ≡ keep (in_region g t (entry_at t g p a).region) (under t p)
  -- a larger score first; of equal scores the smaller region
  pub in_turn : (a b : ℕ) → a < b → b < length (entries_of t g p)
      → ((entry_at t g p b).score < (entry_at t g p a).score) ⊎ (((entry_at t g p a).score ≡ (entry_at t g p b).score) × ((entry_at t g p a).region < (entry_at t g p b).region))

-- ---- the eight words of a node

-- a stand under p lies in region r
abbrev pub RegionHeld : Table → Grid → List ℕ → ℕ → Type 0
RegionHeld t g p r = (i : ℕ) × StandUnder t p i × (region_of_stand g t i ≡ r)

-- the regions that hold a stand under p are those that hold one under q
abbrev pub SameRegions : Table → Grid → List ℕ → List ℕ → Type 0
SameRegions t g p q = (r : ℕ) → r < regions → (RegionHeld t g p r → RegionHeld t g q r) × (RegionHeld t g q r → RegionHeld t g p r)

-- word k of bit record n
abbrev pub record_word : Table → Grid → ℕ → ℕ → ℕ
record_word t g n k = get_or (bit_words t g) (n * 2 + k) 0

-- of node j, where w 0 to w 7 are its words
pub record RowMeans (t : Table) (g : Grid) (j : ℕ) (w : ℕ → ℕ) : Type 0 where
  -- parent and last byte: 0 for the root
  pub root : j ≡ 0 → (w 0 ≡ 0) × (w 1 ≡ 0)
  -- any other node's text is its parent's and the last byte
  pub parent : 0 < j → (w 0 < j) × (text_of t j ≡ text_of t (w 0) ++ (w 1 ∷ []))
  -- the stands under the node are those from the first stand number on, short of the one past the last
  pub stands_in : (i : ℕ) → StandUnder t (text_of t j) i → (w 2 ≤ i) × (i < w 3)
  pub stands_only : (i : ℕ) → w 2 ≤ i → i < w 3 → StandUnder t (text_of t j) i
  -- the nodes whose text begins with the node's are those from it on, short of the number past the subtree
  pub nodes_in : (i : ℕ) → i < node_count t → begins (text_of t j) (text_of t i) ≡ true → (j ≤ i) × (i < w 4)
  pub nodes_only : (i : ℕ) → j ≤ i → i < w 4 → (i < node_count t) × (begins (text_of t j) (text_of t i) ≡ true)
  -- its bit record is one of those there are
  pub recorded : w 5 < record_count t g
  -- and bit r of the record's two words is 1 exactly if region r, or region 32 + r, holds a stand under the node
  pub low_held : (r : ℕ) → r < 32 → bit_at (record_word t g (w 5) 0) r ≡ true → RegionHeld t g (text_of t j) r
  pub held_low : (r : ℕ) → r < 32 → RegionHeld t g (text_of t j) r → bit_at (record_word t g (w 5) 0) r ≡ true
  pub high_held : (r : ℕ) → r < 32 → bit_at (record_word t g (w 5) 1) r ≡ true → RegionHeld t g (text_of t j) (32 + r)
  pub held_high : (r : ℕ) → r < 32 → RegionHeld t g (text_of t j) (32 + r) → bit_at (record_word t g (w 5) 1) r ≡ true
  -- the mark is 1 or 0, and 1 exactly if the node is not the root and its regions are its parent's
  pub marked : (w 6 ≡ 0) ⊎ (w 6 ≡ 1)
  pub repeated : w 6 ≡ 1 → (0 < j) × SameRegions t g (text_of t (w 0)) (text_of t j)
  pub repeating : 0 < j → SameRegions t g (text_of t (w 0)) (text_of t j) → w 6 ≡ 1
  -- the node's entries stand in the entry words from the number of its first entry on, four words each
  pub entries : (e k : ℕ) → e < length (entries_of t g (text_of t j)) → k < 4
      → get_or (entry_words t g) ((w 7 + e) * 4 + k) 0 ≡ get_or (entry_row (entry_at t g (text_of t j) e)) k 0

-- ---- the bit records

-- word k of node j
abbrev pub word_at : Table → Grid → ℕ → ℕ → ℕ
word_at t g j k = get_or (node_words t g) (j * 8 + k) 0

pub record RecordsMean (t : Table) (g : Grid) : Type 0 where
  -- the root keeps the first
  pub root : (word_at t g 0 5 ≡ 0) × (word_at t g 0 6 ≡ 0)
  -- a node with its parent's regions is served by its parent's record
  pub parents : (j : ℕ) → j < node_count t → word_at t g j 6 ≡ 1 → word_at t g j 5 ≡ word_at t g (word_at t g j 0) 5
  -- of two other nodes the earlier has the earlier record, so that no two of them have one record
  pub in_turn : (j k : ℕ) → j < k → k < node_count t → word_at t g j 6 ≡ 0 → word_at t g k 6 ≡ 0 → word_at t g j 5 < word_at t g k 5
  -- and each record is one's of them
  pub used : (n : ℕ) → n < record_count t g → (j : ℕ) × (j < node_count t) × (word_at t g j 6 ≡ 0) × (word_at t g j 5 ≡ n)

-- ---- a ranked answer

-- a larger value is better; of equal values the smaller stand number
abbrev pub Better : Hit → Hit → Type 0
Better h k = (k.value < h.value) ⊎ ((h.value ≡ k.value) × (h.stand < k.stand))

abbrev pub no_hit : Hit
no_hit = record { stand = 0; value = 0 }

abbrev pub hit_at : Table → Grid → List ℕ → Ranking → ℕ → Hit
hit_at t g p q a = get_or (ranked_list t g p q) a no_hit

pub record RankedMeans (t : Table) (g : Grid) (p : List ℕ) (q : Ranking) : Type 0 where
  -- k hits, or as many as there are stands under p where those are fewer
  pub many : length (ranked_list t g p q) ≡ min q.k (length (under t p))
  -- each is a stand under p with its value
  pub only : (h : Hit) → In h (ranked_list t g p q) → (i : ℕ) × StandUnder t p i × (h ≡ hit_of t g q i)
  -- no stand is there twice
  pub once : (a b : ℕ) → a < length (ranked_list t g p q) → b < length (ranked_list t g p q) → (hit_at t g p q a).stand ≡ (hit_at t g p q b).stand → a ≡ b
  -- an earlier one is better than a later one
  pub in_turn : (a b : ℕ) → a < b → b < length (ranked_list t g p q) → Better (hit_at t g p q a) (hit_at t g p q b)
  -- and each is better than any stand under p that is left out
  pub best : (h : Hit) → In h (ranked_list t g p q) → (i : ℕ) → StandUnder t p i → (In (hit_of t g q i) (ranked_list t g p q) → ⊥) → Better h (hit_of t g q i)

-- ---- how large an index gets

pub record SizesBounded (t : Table) (g : Grid) : Type 0 where
  -- eight words for a node, four for an entry, two for a bit record
  pub node_words : length (node_words t g) ≡ node_count t * 8
  pub entry_words : length (entry_words t g) ≡ entry_count t g * 4
  pub bit_words : length (bit_words t g) ≡ record_count t g * 2
  -- a root, and for each stand at most a node for each byte of its name
  pub nodes : node_count t ≤ 24 * stands t + 1
  -- each node has at most an entry for each stand under it, and a stand is under at most 25 nodes
  pub entries : entry_count t g ≤ 25 * stands t
  -- no more bit records than nodes
  pub records_few : record_count t g ≤ node_count t
  -- nor than two for each stand: a node with fewer stands than its parent ends or begins next to one that is only its parent's
  pub records : 0 < stands t → record_count t g < 2 * stands t
  -- for 1,024 stands
  pub nodes_most : node_count t ≤ 24577
  pub entries_most : entry_count t g ≤ 25600
  pub records_most : record_count t g ≤ 2047
  -- and for none there is the root, without an entry, and its record
  pub lone : stands t ≡ 0 → (node_count t ≡ 1) × (entry_count t g ≡ 0) × (record_count t g ≡ 1)

-- the same by the bytes of the text, so that a caller with short names needs less room
pub record SizesByText (t : Table) (g : Grid) : Type 0 where
  -- a root, and at most a node for each byte
  pub nodes : node_count t ≤ length t.text + 1
  -- each stand is under the root, and under at most a node for each byte of its name
  pub entries : entry_count t g ≤ length t.text + stands t

-- ---- all of it

pub record TableMeans (t : Table) (g : Grid) : Type 0 where
  pub stands_under : (p : List ℕ) → UnderMeans t p
  pub tree : BeginningsMean t
  pub nodes : (p : List ℕ) → NodeMeans t p
  pub order : OrderMeans t g
  pub entries : (p : List ℕ) → EntriesMean t g p
  -- a node's words stand at eight times its number
  pub rows : (j : ℕ) → j < node_count t → RowMeans t g j (word_at t g j)
  pub records : RecordsMean t g
  pub range : (p : List ℕ) (r : Rect) → RangeMeans t g p r
  pub ranked : (p : List ℕ) (q : Ranking) → RankedMeans t g p q
  pub sizes : SizesBounded t g
  pub by_text : SizesByText t g
