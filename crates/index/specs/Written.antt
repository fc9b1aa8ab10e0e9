-- What the code answers and writes past refusals 1 to 5, from the columns alone: models for the proofs, which nobody has to believe.
use Rattle.std.specs.Prelude.{◌≡◌, Result, Option, ℕ, Bool, cond, ◌||◌, [], ◌∷◌, ◌*◌, ltb, length}
use Rattle.base.specs.Lists.{every, begins}
use Rattle.rules.specs.declared.Refusal.{Refusal}
use Rattle.rules.specs.declared.Sizes.{Sizes}
use Rattle.rules.specs.Numbers.{built_numbers, checked_numbers}
use Rattle.rules.specs.Indexes.{Index, index_of}
use Rattle.node.specs.Columns.{IndexColumns}
use Rattle.words.specs.Over.{over, order_of}
use Rattle.words.specs.Words.{node_count_of, entry_count_of, record_count_of, node_words_of, entry_words_of, bit_words_of}

-- a buffer has no room for so many stands and an index of these sizes
abbrev pub short_of : Index → ℕ → Sizes → Bool
short_of x stands s =
    ltb (length x.order) stands || ltb (length x.nodes) (8 * s.nodes) || ltb (length x.entries) (4 * s.entries) || ltb (length x.bits) (2 * s.bits)

-- a buffer is too small
unfoldable pub too_small_for : IndexColumns → Index → Bool
too_small_for c x =
    ltb (length x.order) (length c.region)
    || ltb (length x.nodes) (8 * node_count_of c)
    || ltb (length x.entries) (4 * entry_count_of c)
    || ltb (length x.bits) (2 * record_count_of c)

-- what is written
unfoldable pub over_all : IndexColumns → Index → Index
over_all c x =
    index_of (over x.order 0 (order_of c.region)) (over x.nodes 0 (node_words_of c)) (over x.entries 0 (entry_words_of c)) (over x.bits 0 (bit_words_of c))

pub record BuiltFrom (c : IndexColumns) (x : Index) (r : Result Sizes Refusal) (y : Index) : Type 0 where
  pub told : built_numbers r ≡ cond (too_small_for c x) (record { refusal = 6; nodes = 0; entries = 0; bits = 0 }) (record { refusal = 0; nodes = node_count_of c; entries = entry_count_of c; bits = record_count_of c })
  pub buffers : y ≡ cond (too_small_for c x) x (over_all c x)

-- whether each buffer begins with its words
unfoldable pub has_all : IndexColumns → Index → Bool
has_all c x =
    every
    (begins (order_of c.region) x.order
    ∷ begins (node_words_of c) x.nodes
    ∷ begins (entry_words_of c) x.entries
    ∷ begins (bit_words_of c) x.bits
    ∷ [])

pub record CheckedFrom (c : IndexColumns) (x : Index) (r : Option Sizes) : Type 0 where
  pub told : checked_numbers r ≡ cond (has_all c x) (record { lawful = 1; nodes = node_count_of c; entries = entry_count_of c; bits = record_count_of c }) (record { lawful = 0; nodes = 0; entries = 0; bits = 0 })
