-- `group::read_opening` reads the four lines of the grid in a row: each answer says what one of them left.
-- Assumes nothing.
use mir.Syntax.{w32}
use mir.Facts.{to_z-of_z}
use borrow.Author.Rules.{rules}
use Rattle.lines.specs.Reads.{onward}
use Rattle.desk_form.specs.Reads.{grid_lines}
use Rattle.desk_form.proofs.group.read_opening.Goals as goal

pub returns-in_err-west : goal.returns-in_err-west
unfolding grid_lines onward
returns-in_err-west c = rw (c.from_residual.ensures, c.in_err-west.ensures)

pub returns-in_err-south : goal.returns-in_err-south
unfolding grid_lines onward
returns-in_err-south c = rw (c.from_residual-in_err-south.ensures, c.in_ok-west.ensures.is, c.in_err-south.ensures)

pub returns-in_err-cell : goal.returns-in_err-cell
unfolding grid_lines onward
returns-in_err-cell c = rw (c.from_residual-in_err-cell.ensures, c.in_ok-west.ensures.is, c.in_ok-south.ensures.is, c.in_err-cell.ensures)

pub returns-in_err-stands : goal.returns-in_err-stands
unfolding grid_lines onward
returns-in_err-stands c =
    rw (c.from_residual-in_err-stands.ensures, c.in_ok-west.ensures.is, c.in_ok-south.ensures.is, c.in_ok-cell.ensures.is, c.in_err-stands.ensures)

pub returns : goal.returns
unfolding grid_lines onward
returns c =
    let stands = c.in_ok-stands.ensures in
    rw (to_z-of_z {w = w32} {z = c.in_ok-west.west} (search rules), to_z-of_z {w = w32} {z = c.in_ok-south.south} (search rules))
    (record { within = stands.within; is = rw (c.in_ok-west.ensures.is, c.in_ok-south.ensures.is, c.in_ok-cell.ensures.is, stands.is) })
