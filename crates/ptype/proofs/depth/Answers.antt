-- `depth` meets its contract: 33 levels. Assumes nothing.
use Rattle.ptype.specs.Words.{ty_of}
use Rattle.ptype.proofs.depth.Goals as goal

pub returns : goal.returns
unfolding ty_of
returns c = c.depth_of.ensures
