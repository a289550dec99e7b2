-- `rows::slot_row` meets its contract: its pieces, one after the other. Assumes nothing.
use Rattle.rows_window.specs.ShowingLaws.{◌and_then◌}
use Rattle.tok.specs.Text.{text}
use Rattle.rows_window.specs.ShowingLaws.{shows_as}
use Rattle.rows.specs.LinesLaws.{slot-none, slot_pieces}
use Rattle.rows.proofs.slot_row.Goals as goal

pub returns-then-word-eq0 : goal.returns-then-word-eq0
unfolding text
returns-then-word-eq0 c = shows_as (slot-none _ _ _ _ c.if-word-eq0.true) c.put.ensures

pub returns : goal.returns
unfolding text
returns c = shows_as (slot_pieces _ _ _ _ c.if-word-eq0.false) (c.put-2.ensures and_then c.put_number.ensures and_then c.show_type.ensures and_then c.put-3.ensures)
