-- `printing::put_hit` puts three lines in a row.
-- Assumes nothing.
use mathlib.Core.Path.{ap}
use native.Mathlib.Omega.{arith}
use lib.ListN.{length}
use borrow.Author.Rules.{rules}
use Rattle.lines.proofs.Appending.{line-room, past-line}
use Rattle.lines.proofs.Digits.{number_room, past_number}
use Rattle.desk_answer.proofs.Listing.{hit_put}
use Rattle.desk_answer.proofs.printing.put_hit.Goals as goal

pub put_number-at-requires : goal.put_number-at-requires
put_number-at-requires c = number_room _ _ _ _ (search rules) (search rules)

pub put_line-at-requires : goal.put_line-at-requires
put_line-at-requires c =
    line-room _ _ _ _ (omega (arith, c.requires.0, c.requires.1, past_number _ _ c.put_number-at.ensures (search rules), ap length c.name_of-name.ensures))

pub put_number-requires : goal.put_number-requires
put_number-requires c =
    number_room _ _ _ _ (search rules) (omega (arith, c.requires.0, c.requires.1, past_number _ _ c.put_number-at.ensures (search rules), past-line _ _ c.put_line-at.ensures, ap length c.name_of-name.ensures))

pub returns : goal.returns
returns c = hit_put _ _ _ _ _ (search rules) (search rules) c.name_of-name.ensures c.requires.1 (rw c.from.ensures at c.put_number-at.ensures) c.put_line-at.ensures c.put_number.ensures
