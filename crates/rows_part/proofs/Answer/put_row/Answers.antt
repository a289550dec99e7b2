-- `rows_part::Answer::put_row` meets its contract where there is no row. Assumes nothing.
use Rattle.rows_part.proofs.Ways.{shows-no_row}
use Rattle.rows_part.proofs.Answer.put_row.Goals as goal

pub returns-in_default : goal.returns-in_default
returns-in_default c = shows-no_row _ _ c.in_default.is
