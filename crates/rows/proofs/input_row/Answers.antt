-- `rows::input_row` meets its contract: its pieces, one after the other. Assumes nothing.
use Rattle.tok.specs.Text.{text}
use Rattle.rows_window.specs.ShowingLaws.{shows_as}
use Rattle.rows.specs.LinesLaws.{input_pieces}
use Rattle.rows.proofs.input_row.Goals as goal

pub returns : goal.returns
unfolding text
returns c = shows_as input_pieces c.put.ensures
