-- `display::show_arguments` meets its contract: the levels are those of `ty_of`. Assumes nothing.
use Rattle.ptype.specs.Words.{ty_of}
use Rattle.display.proofs.show_arguments.Goals as goal

pub returns : goal.returns
unfolding ty_of
returns g c = c.show_fields.ensures
