-- `rows_window::WindowWriter::put_decimal` meets its contract: the digits have room in a local buffer, and are then put as a piece. Assumes nothing.
use native.Mathlib.Omega.{arith}
use borrow.Author.Rules.{rules}
use Rattle.rows_window.specs.ShowingLaws.{shows_front, front-end, front-length}
use Rattle.rows_window.proofs.Pieces.{decimal-room}
use Rattle.rows_window.proofs.WindowWriter.put_decimal.Goals as goal

pub returns-in_default : goal.returns-in_default
returns-in_default c = absurd (decimal-room _ _ c.new-writer.ensures.from_the_start c.put_decimal.ensures.1 (omega arith) c.in_default.is)

pub slice_bounds-digits-end : goal.slice_bounds-digits-end
slice_bounds-digits-end c = front-end _ _ c.new-writer.ensures.from_the_start.1 c.in-Ok.is c.put_decimal.ensures.1 (search rules)

pub slice_bounds-put-end : goal.slice_bounds-put-end
slice_bounds-put-end c = front-length _ _ c.new-writer.ensures.from_the_start.1 c.in-Ok.is c.put_decimal.ensures.1 (search rules)

pub returns : goal.returns
returns c = shows_front _ _ c.new-writer.ensures.from_the_start.1 c.in-Ok.is c.put_decimal.ensures.1 (search rules) c.put.ensures
