-- The index, word by word; what building answers and writes, and which sets are lawful.
-- Nodes are the distinct beginnings of names, in pre-order; a node's row is eight words, an entry's four, a bit record's two.
use Rattle.std.specs.Prelude.{Bool, false, cond, not, ◌||◌, List, [], ◌∷◌, ℕ, zero, suc, ◌+◌, ◌-◌, ◌*◌, eqb, ltb, length, take, get_or}
use Rattle.base.specs.Lists.{every, from_on, up_to, keep, each, each_list, total, largest, first_of, is_empty, same_list, sort_by, begins, position_in, written, leads}
use Rattle.base.specs.Bits.{word_of}
use Rattle.base.specs.Lent.{Lent, given}
use Rattle.rules.specs.declared.Index as lent
use Rattle.rules.specs.declared.Grid.{Grid}
use Rattle.rules.specs.Numbers.{first_given, BuildTold, CheckTold}
use Rattle.rules.specs.Places.{regions}
use Rattle.rules.specs.Tables.{Table, stands, name_of, score_of, table_refusal}
use Rattle.rules.specs.Questions.{under, in_region, by_region}

-- the stand order: every stand, by region and then by number
abbrev pub order_words : Table → Grid → List ℕ
order_words t g = by_region g t (up_to (stands t))

-- the beginnings of a name but the empty one, the shortest first
abbrev pub beginnings_of : List ℕ → List (List ℕ)
beginnings_of n = each (λ l. take l n) (from_on 1 (length n))

-- of stand i's name, those that are no beginning of the name before
abbrev pub new_at : Table → ℕ → List (List ℕ)
new_at t zero = beginnings_of (name_of t 0)
new_at t (suc i) = keep (λ p. not (begins p (name_of t i))) (beginnings_of (name_of t (suc i)))

-- each distinct beginning, the empty one first; names in byte order make that pre-order with children by rising byte
unfoldable pub beginnings : Table → List (List ℕ)
beginnings t = [] ∷ each_list (new_at t) (up_to (stands t))

-- the number of a node: where its text stands among the beginnings
abbrev pub number_in : List ℕ → List (List ℕ) → ℕ
number_in p [] = 0
number_in p (q ∷ qs) = cond (same_list p q) 0 (suc (number_in p qs))

abbrev pub last_byte : List ℕ → ℕ
last_byte [] = 0
last_byte (a ∷ []) = a
last_byte (a ∷ b ∷ l) = last_byte (b ∷ l)

abbrev pub but_last : List ℕ → List ℕ
but_last p = take (length p - 1) p

-- whether region r holds a stand under p
abbrev pub occupied : Table → Grid → List ℕ → ℕ → Bool
occupied t g p r = not (is_empty (keep (in_region g t r) (under t p)))

abbrev pub regions_under : Table → Grid → List ℕ → List ℕ
regions_under t g p = keep (occupied t g p) (up_to regions)

pub record Entry : Type 0 where
  pub region : ℕ
  pub score : ℕ
  pub first : ℕ
  pub past : ℕ

-- region r's stands under p: the largest score, and their places in the stand order
abbrev pub entry_of : Table → Grid → List ℕ → ℕ → Entry
entry_of t g p r =
    let s : List ℕ = keep (in_region g t r) (under t p) in
    let at : ℕ = position_in (first_of s) (order_words t g) in
    record { region = r; score = largest (each (score_of t) s); first = at; past = at + length s }

-- a larger score first; of equal scores the smaller region
abbrev pub ahead : Entry → Entry → Bool
ahead = leads (λ e. e.score) (λ e. e.region)

abbrev pub entries_of : Table → Grid → List ℕ → List Entry
entries_of t g p = sort_by ahead (each (entry_of t g p) (regions_under t g p))

abbrev pub entry_row : Entry → List ℕ
entry_row e = e.region ∷ e.score ∷ e.first ∷ e.past ∷ []

abbrev pub entry_words : Table → Grid → List ℕ
entry_words t g = each_list (λ p. each_list entry_row (entries_of t g p)) (beginnings t)

-- the number past the subtree of node j: its block of beginnings has j's text before it
abbrev pub past_of : List (List ℕ) → ℕ → ℕ
past_of B j = j + length (keep (begins (get_or B j [])) B)

-- whether a node has its parent's regions, and so keeps no bits of its own; the root has no parent
unfoldable pub repeats : Table → Grid → List ℕ → Bool
repeats t g [] = false
repeats t g (a ∷ p) = same_list (regions_under t g (but_last (a ∷ p))) (regions_under t g (a ∷ p))

-- the nodes that keep bits, one record each
abbrev pub keepers : Table → Grid → List (List ℕ)
keepers t g = keep (λ p. not (repeats t g p)) (beginnings t)

-- of a text's beginnings with at most l bytes the longest that keeps bits
abbrev pub keeper_up_to : Table → Grid → List ℕ → ℕ → List ℕ
keeper_up_to t g p zero = []
keeper_up_to t g p (suc l) = cond (repeats t g (take (suc l) p)) (keeper_up_to t g p l) (take (suc l) p)

-- the record that serves a node: its own, or its parent's
unfoldable pub record_of : Table → Grid → List ℕ → ℕ
record_of t g p = number_in (keeper_up_to t g p (length p)) (keepers t g)

-- region bits 0 to 31 and 32 to 63
abbrev pub record_row : Table → Grid → List ℕ → List ℕ
record_row t g p = word_of (occupied t g p) 0 32 ∷ word_of (occupied t g p) 32 32 ∷ []

abbrev pub bit_words : Table → Grid → List ℕ
bit_words t g = each_list (record_row t g) (keepers t g)

-- parent, last byte, first stand, past the last, past the subtree, bit record, 1 if that is the parent's, first entry
abbrev pub node_row : Table → Grid → ℕ → List ℕ
node_row t g j =
    let p : List ℕ = get_or (beginnings t) j [] in
    number_in (but_last p) (beginnings t)
    ∷ last_byte p
    ∷ first_of (under t p)
    ∷ (first_of (under t p) + length (under t p))
    ∷ past_of (beginnings t) j
    ∷ record_of t g p
    ∷ cond (repeats t g p) 1 0
    ∷ total (each (λ q. length (regions_under t g q)) (take j (beginnings t)))
    ∷ []

abbrev pub node_words : Table → Grid → List ℕ
node_words t g = each_list (node_row t g) (up_to (length (beginnings t)))

abbrev pub node_count : Table → ℕ
node_count t = length (beginnings t)

abbrev pub entry_count : Table → Grid → ℕ
entry_count t g = total (each (λ p. length (entries_of t g p)) (beginnings t))

abbrev pub record_count : Table → Grid → ℕ
record_count t g = length (keepers t g)

-- the four lent buffers
pub record Index : Type 0 where
  pub order : List ℕ
  pub nodes : List ℕ
  pub entries : List ℕ
  pub bits : List ℕ

abbrev pub index_of : List ℕ → List ℕ → List ℕ → List ℕ → Index
index_of order nodes entries bits = record { order = order; nodes = nodes; entries = entries; bits = bits }

-- the index that a call is lent, buffer by buffer
abbrev pub index_in : Lent (List ℕ) → Lent (List ℕ) → Lent (List ℕ) → Lent (List ℕ) → Index
index_in order nodes entries bits = index_of (given order) (given nodes) (given entries) (given bits)

-- or lent as one
abbrev pub lent_index : lent.Index → Index
lent_index x = index_of x.order.now x.nodes.now x.entries.now x.bits.now

-- 6: a buffer is too small
unfoldable pub too_small : Table → Grid → Index → Bool
too_small t g x =
    ltb (length x.order) (stands t)
    || ltb (length x.nodes) (8 * node_count t)
    || ltb (length x.entries) (4 * entry_count t g)
    || ltb (length x.bits) (2 * record_count t g)

-- the first of refusals 1 to 6 that holds, or 0
unfoldable pub build_refusal : Table → Grid → Index → ℕ
build_refusal t g x = first_given (table_refusal t g) (cond (too_small t g x) 6 0)

unfoldable pub build_told : Table → Grid → Index → BuildTold
build_told t g x =
    cond (eqb (build_refusal t g x) 0)
    (record { refusal = 0; nodes = node_count t; entries = entry_count t g; bits = record_count t g })
    (record { refusal = build_refusal t g x; nodes = 0; entries = 0; bits = 0 })

-- the buffers after building: a refusal leaves them as they were
unfoldable pub index_after : Table → Grid → Index → Index
index_after t g x =
    cond (eqb (build_refusal t g x) 0)
    (index_of (written (order_words t g) x.order) (written (node_words t g) x.nodes) (written (entry_words t g) x.entries) (written (bit_words t g) x.bits))
    x

-- a lawful set: table and grid pass 1 to 5, and each buffer begins with what building writes
unfoldable pub set_lawful : Table → Grid → Index → Bool
set_lawful t g x =
    every
    (eqb (table_refusal t g) 0
    ∷ begins (order_words t g) x.order
    ∷ begins (node_words t g) x.nodes
    ∷ begins (entry_words t g) x.entries
    ∷ begins (bit_words t g) x.bits
    ∷ [])

unfoldable pub check_told : Table → Grid → Index → CheckTold
check_told t g x =
    cond (set_lawful t g x)
    (record { lawful = 1; nodes = node_count t; entries = entry_count t g; bits = record_count t g })
    (record { lawful = 0; nodes = 0; entries = 0; bits = 0 })
