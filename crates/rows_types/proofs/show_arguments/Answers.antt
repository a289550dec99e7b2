-- `rows_types::show_arguments` meets its contract: the arguments, and what comes after them. Assumes nothing.
use Rattle.rows_window.specs.ShowingLaws.{◌and_then◌}
use Rattle.rows_types.proofs.show_arguments.Goals as goal

pub returns : goal.returns
returns c = c.show_arguments.ensures.0 and_then c.put.ensures
