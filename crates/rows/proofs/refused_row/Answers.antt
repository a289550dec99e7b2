-- `rows::refused_row` meets its contract: its pieces, one after the other. Assumes nothing.
use Rattle.rows_window.specs.ShowingLaws.{◌and_then◌}
use Rattle.tok.specs.Text.{text}
use Rattle.rows_window.specs.ShowingLaws.{shows_as}
use Rattle.rows.specs.LinesLaws.{refused_pieces}
use Rattle.rows.proofs.refused_row.Goals as goal

pub returns : goal.returns
unfolding text
returns c = shows_as (refused_pieces _ _) (c.put.ensures and_then c.put_number.ensures and_then c.put_decimal.ensures and_then c.put-2.ensures)
