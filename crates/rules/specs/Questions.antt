-- What is asked, worked out from the table alone: no index is in sight.
-- For a range and for a ranking the list that is meant, and the first refusal that holds. What is told of a list stands in Outcomes; there
-- whether any stand is in a range goes by the range's list.
use Rattle.std.specs.Prelude.{Bool, cond, List, [], ◌∷◌, ℕ, eqb, leb, take}
use Rattle.base.specs.Lists.{every, up_to, keep, each, each_list, sort_by, begins, leads}
use Rattle.rules.specs.declared.Grid.{Grid}
use Rattle.rules.specs.declared.Rect.{Rect}
use Rattle.rules.specs.declared.Ranking.{Ranking}
use Rattle.rules.specs.declared.Hit.{Hit}
use Rattle.rules.specs.Numbers.{first_given}
use Rattle.rules.specs.Places.{in_grid, region_of, regions, rect_lawful, in_rect}
use Rattle.rules.specs.Worth.{value_of}
use Rattle.rules.specs.Names.{text_refusal}
use Rattle.rules.specs.Tables.{Table, stands, name_of, place_of, score_of}

-- the stands whose name begins with the text, by number
unfoldable pub under : Table → List ℕ → List ℕ
under t p = keep (λ i. begins p (name_of t i)) (up_to (stands t))

unfoldable pub region_of_stand : Grid → Table → ℕ → ℕ
region_of_stand g t i = region_of g (place_of t i)

abbrev pub in_region : Grid → Table → ℕ → ℕ → Bool
in_region g t r i = eqb (region_of_stand g t i) r

-- a list of stands put by region, each region's in the order that they had
abbrev pub by_region : Grid → Table → List ℕ → List ℕ
by_region g t s = each_list (λ r. keep (in_region g t r) s) (up_to regions)

-- range: the stands under the text that are in the rectangle, by region and then by number
abbrev pub range_list : Table → Grid → List ℕ → Rect → List ℕ
range_list t g p r = by_region g t (keep (λ i. in_rect r (place_of t i)) (under t p))

-- a larger value is better; of equal values the smaller stand number
abbrev pub better : Hit → Hit → Bool
better = leads (λ h. h.value) (λ h. h.stand)

abbrev pub hit_of : Table → Grid → Ranking → ℕ → Hit
hit_of t g q i = record { stand = i; value = value_of g q.weight (score_of t i) (place_of t i) q.place }

-- ranked: the stands under the text, best first; the best k of them are listed
abbrev pub ranking : Table → Grid → List ℕ → Ranking → List Hit
ranking t g p q = sort_by better (each (hit_of t g q) (under t p))

abbrev pub ranked_list : Table → Grid → List ℕ → Ranking → List Hit
ranked_list t g p q = take q.k (ranking t g p q)

-- 11: a rectangle that is reversed
abbrev pub rect_refusal : Rect → ℕ
rect_refusal r = cond (rect_lawful r) 0 11

-- 12: but for a place of the grid, a weight of at most 16, and k from 1 to 16
unfoldable pub ranking_lawful : Grid → Ranking → Bool
ranking_lawful g q = every (in_grid g q.place ∷ leb q.weight 16 ∷ leb 1 q.k ∷ leb q.k 16 ∷ [])

abbrev pub ranking_refusal : Grid → Ranking → ℕ
ranking_refusal g q = cond (ranking_lawful g q) 0 12

-- the first of 9, 8 and 11, or of 9, 8 and 12, that holds, or 0
abbrev pub range_refusal : List ℕ → Rect → ℕ
range_refusal p r = first_given (text_refusal p) (rect_refusal r)

abbrev pub ranked_refusal : Grid → List ℕ → Ranking → ℕ
ranked_refusal g p q = first_given (text_refusal p) (ranking_refusal g q)
