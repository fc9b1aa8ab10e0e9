-- The small scheme to reckon by: five stands, and what the definitions give for them, line by line.
-- SmallScheme is one statement about the definitions; its proof is a computation.
use Rattle.std.specs.Prelude.{◌≡◌, List, [], ◌∷◌, ℕ, ◌*◌, pos, take, drop, get_or, replicate}
use Rattle.base.specs.Lists.{each, up_to}
use Rattle.rules.specs.declared.Grid.{Grid}
use Rattle.rules.specs.declared.Rect.{Rect}
use Rattle.rules.specs.declared.Ranking.{Ranking}
use Rattle.rules.specs.declared.Hit.{Hit}
use Rattle.rules.specs.declared.Session.{Session}
use Rattle.rules.specs.Numbers.{telling_yes, telling_no}
use Rattle.rules.specs.Worth.{diagonal}
use Rattle.rules.specs.Names.{folded_text, rest_of}
use Rattle.rules.specs.Tables.{Table, table_refusal}
use Rattle.rules.specs.Questions.{region_of_stand, range_list, ranked_list}
use Rattle.rules.specs.Outcomes.{any_outcome}
use Rattle.rules.specs.Indexes.{order_words, beginnings, node_count, entry_count, node_row, keepers, bit_words, entry_words}
use Rattle.rules.specs.Sessions.{session_of, letters_typed, letters_rubbed}

abbrev pub grid : Grid
grid = record { west = pos 0; south = pos 0; cell = 10 }

-- kibo, kibo, kibori, kito, mto
abbrev pub table : Table
table =
    record {
      text = 107 ∷ 105 ∷ 98 ∷ 111 ∷ 107 ∷ 105 ∷ 98 ∷ 111 ∷ 107 ∷ 105 ∷ 98 ∷ 111 ∷ 114 ∷ 105 ∷ 107 ∷ 105 ∷ 116 ∷ 111 ∷ 109 ∷ 116 ∷ 111 ∷ [];
      starts = 0 ∷ 4 ∷ 8 ∷ 14 ∷ 18 ∷ 21 ∷ [];
      east = pos 5 ∷ pos 75 ∷ pos 12 ∷ pos 9 ∷ pos 10 ∷ [];
      north = pos 5 ∷ pos 75 ∷ pos 5 ∷ pos 9 ∷ pos 9 ∷ [];
      score = 100 ∷ 900 ∷ 400 ∷ 400 ∷ 0 ∷ [];
    }

abbrev pub ki : List ℕ
ki = 107 ∷ 105 ∷ []

-- "Ki" as the keypad may send it
abbrev pub Ki : List ℕ
Ki = 75 ∷ 105 ∷ []

abbrev pub kiz : List ℕ
kiz = 107 ∷ 105 ∷ 122 ∷ []

abbrev pub kibor : List ℕ
kibor = 107 ∷ 105 ∷ 98 ∷ 111 ∷ 114 ∷ []

abbrev pub kit : List ℕ
kit = 107 ∷ 105 ∷ 116 ∷ []

abbrev pub m : List ℕ
m = 109 ∷ []

abbrev pub box : ℕ → ℕ → ℕ → ℕ → Rect
box west east south north = record { west = pos west; east = pos east; south = pos south; north = pos north }

-- asked at (5, 5)
abbrev pub asked : ℕ → ℕ → Ranking
asked weight k = record { place = record { east = pos 5; north = pos 5 }; weight = weight; k = k }

abbrev pub hit : ℕ → ℕ → Hit
hit stand value = record { stand = stand; value = value }

abbrev pub numbers_of : List Hit → List ℕ
numbers_of hits = each (λ h. h.stand) hits

abbrev pub session : List ℕ → ℕ → List ℕ → Session
session text len path = record { text = text; len = len; path = path }

pub record SmallScheme : Type 0 where
  pub lawful : table_refusal table grid ≡ 0
  pub diagonal : diagonal grid ≡ 113
  pub line1_regions : each (region_of_stand grid table) (up_to 5) ≡ 0 ∷ 63 ∷ 1 ∷ 0 ∷ 1 ∷ []
  pub line1_order : order_words table grid ≡ 0 ∷ 3 ∷ 2 ∷ 4 ∷ 1 ∷ []
  pub line2_nodes : node_count table ≡ 12
  pub line2_entries : entry_count table grid ≡ 22
  pub line3_text : get_or (beginnings table) 2 [] ≡ ki
  pub line3 : node_row table grid 2 ≡ 1 ∷ 105 ∷ 0 ∷ 4 ∷ 9 ∷ 0 ∷ 1 ∷ 6 ∷ []
  pub records_of : keepers table grid ≡ [] ∷ kibor ∷ kit ∷ m ∷ []
  pub records : bit_words table grid ≡ 3 ∷ 2147483648 ∷ 2 ∷ 0 ∷ 1 ∷ 0 ∷ 2 ∷ 0 ∷ []
  pub line4 : take 12 (drop (6 * 4) (entry_words table grid)) ≡ 63 ∷ 900 ∷ 4 ∷ 5 ∷ 0 ∷ 400 ∷ 0 ∷ 2 ∷ 1 ∷ 400 ∷ 2 ∷ 3 ∷ []
  pub line5 : range_list table grid ki (box 0 12 0 9) ≡ 0 ∷ 3 ∷ 2 ∷ []
  pub line5_narrower : range_list table grid ki (box 0 11 0 9) ≡ 0 ∷ 3 ∷ []
  pub line6 : range_list table grid [] (box 12 12 5 5) ≡ 2 ∷ []
  pub line6_none : (r : Rect) → range_list table grid kiz r ≡ []
  pub line5_yes : any_outcome 0 (range_list table grid ki (box 0 12 0 9)) ≡ telling_yes 0
  pub line6_yes : any_outcome 0 (range_list table grid [] (box 12 12 5 5)) ≡ telling_yes 2
  pub line6_no : (r : Rect) → any_outcome 0 (range_list table grid kiz r) ≡ telling_no
  pub line7 : ranked_list table grid ki (asked 0 2) ≡ hit 0 1808000 ∷ hit 3 1728000 ∷ []
  pub line8 : ranked_list table grid ki (asked 16 2) ≡ hit 1 1627200 ∷ hit 2 723200 ∷ []
  pub line9 : ranked_list table grid ki (asked 8 4) ≡ hit 3 1225600 ∷ hit 2 1209600 ∷ hit 0 994400 ∷ hit 1 933600 ∷ []
  pub line10 : numbers_of (ranked_list table grid [] (asked 0 3)) ≡ 0 ∷ 3 ∷ 4 ∷ []
  pub line11_ki : session_of table ki ≡ session (107 ∷ 105 ∷ replicate 22 0) 2 (0 ∷ 1 ∷ 2 ∷ replicate 22 0)
  pub line11_kiz : session_of table kiz ≡ session (107 ∷ 105 ∷ 122 ∷ replicate 21 0) 3 (0 ∷ 1 ∷ 2 ∷ replicate 22 0)
  pub line11_letters : letters_rubbed (letters_typed (letters_typed (letters_typed [] 107) 105) 122) ≡ ki
  pub capitals_text : folded_text Ki ≡ ki
  pub capitals_letters : letters_typed (letters_typed [] 75) 105 ≡ ki
  pub capitals_rest : rest_of table.text table.starts 2 Ki ≡ 98 ∷ 111 ∷ 114 ∷ 105 ∷ []
