-- `display::show_type` meets its contract: 33 levels are what a word means. Assumes nothing.
use Rattle.ptype.specs.Words.{ty_of}
use Rattle.display.proofs.show_type.Goals as goal

pub returns : goal.returns
unfolding ty_of
returns g c = c.show_within.ensures
