-- The starred lines of the small scheme hold, by computation. Assumes nothing.
use mathlib.Core.Path.{refl}
use Rattle.base.specs.Lists.{every}
use Rattle.base.specs.Bits.{word_of}
use Rattle.rules.specs.Places.{edge_lawful, grid_lawful, within, in_grid, region_of, regions, in_rect}
use Rattle.rules.specs.Worth.{root_from, root, distance², distance, diagonal², diagonal, value_at, value_of}
use Rattle.rules.specs.Names.{allowed, capital, folded, name_allowed, spanned, name, rest_of}
use Rattle.rules.specs.Tables.{rising, shape_lawful, names_allowed, names_in_order, stand_lawful, stands_lawful, table_refusal}
use Rattle.rules.specs.Questions.{under, region_of_stand}
use Rattle.rules.specs.Indexes.{beginnings, repeats, record_of}
use Rattle.rules.specs.Sessions.{session_of, type_refusal}
use Rattle.rules.specs.Scheme.{SmallScheme}

pub small_scheme : SmallScheme
unfolding every word_of edge_lawful grid_lawful within in_grid region_of regions in_rect root_from root distance² distance diagonal² diagonal value_at value_of allowed capital folded name_allowed spanned name rest_of rising shape_lawful names_allowed names_in_order stand_lawful stands_lawful table_refusal under region_of_stand beginnings repeats record_of session_of type_refusal
small_scheme =
    record {
      lawful = refl;
      diagonal = refl;
      line1_regions = refl;
      line1_order = refl;
      line2_nodes = refl;
      line2_entries = refl;
      line3_text = refl;
      line3 = refl;
      records_of = refl;
      records = refl;
      line4 = refl;
      line5 = refl;
      line5_narrower = refl;
      line6 = refl;
      line6_none = λ r. refl;
      line5_yes = refl;
      line6_yes = refl;
      line6_no = λ r. refl;
      line7 = refl;
      line8 = refl;
      line9 = refl;
      line10 = refl;
      line11_ki = refl;
      line11_kiz = refl;
      line11_letters = refl;
      capitals_text = refl;
      capitals_letters = refl;
      capitals_rest = refl;
    }
