-- `bytes_line` finds the value between the key and the first line feed past it.
-- Assumes nothing.
use Rattle.lines.proofs.Places.{key_missing, feed_missing, line_there}
use Rattle.lines.proofs.reading.bytes_line.Goals as goal

pub returns-in_err-rest : goal.returns-in_err-rest
returns-in_err-rest c = rw c.from_residual.ensures (key_missing _ _ c.args.at c.in_err-rest.ensures.cases)

pub returns-in_err-long : goal.returns-in_err-long
returns-in_err-long c =
    let key = c.in_ok-rest.ensures.cases in
    rw c.from_residual-in_err-long.ensures (feed_missing _ _ c.args.at _ key.0 key.1 c.in_err-long.ensures)

pub returns : goal.returns
returns c = let key = c.in_ok-rest.ensures.cases in line_there _ _ c.args.at _ key.0 key.1 _ c.in_ok-long.ensures
