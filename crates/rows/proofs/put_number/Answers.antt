-- `rows::put_number` meets its contract: its pieces, one after the other. Assumes nothing.
use Rattle.rows_window.specs.ShowingLaws.{◌and_then◌}
use Rattle.tok.specs.Text.{text}
use Rattle.rows.proofs.put_number.Goals as goal

pub returns : goal.returns
unfolding text
returns c = (c.put_decimal.ensures and_then c.put.ensures)
