-- The small scheme at the desk, by computation. Assumes nothing.
use mathlib.Core.Path.{refl}
use Rattle.base.specs.Lists.{every}
use Rattle.rules.specs.Places.{edge_lawful, grid_lawful, within, in_grid}
use Rattle.rules.specs.Worth.{root_from, root, distance², distance, diagonal², diagonal, value_at, value_of}
use Rattle.rules.specs.Names.{allowed, capital, folded, name_allowed, text_refusal, spanned, name}
use Rattle.rules.specs.Tables.{rising, shape_lawful, names_allowed, names_in_order, stand_lawful, stands_lawful, table_refusal}
use Rattle.rules.specs.Questions.{under, ranking_lawful}
use Rattle.lines.specs.Writing.{digits_of, decimal_of, signed_of, line}
use Rattle.desk_form.specs.Form.{grid_text, stand_text, question_text, input_text}
use Rattle.desk_form.specs.Columns.{starts_from, table_from}
use Rattle.desk_form.specs.Printed.{printed_refusal, printed_hit, printed_hits, reply_to, output_of}
use Rattle.desk_form.specs.Scheme.{SchemeAtDesk}

pub scheme_at_desk : SchemeAtDesk
unfolding every edge_lawful grid_lawful within in_grid root_from root distance² distance diagonal² diagonal value_at value_of allowed capital folded name_allowed text_refusal spanned name rising shape_lawful names_allowed names_in_order stand_lawful stands_lawful table_refusal under ranking_lawful digits_of decimal_of signed_of line grid_text stand_text question_text input_text starts_from table_from printed_refusal printed_hit printed_hits reply_to output_of
scheme_at_desk = record { columns = refl; lines = refl; printed = refl; refused = refl; capitals = refl }
