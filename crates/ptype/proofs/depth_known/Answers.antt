-- `depth_known` meets its contract: 33 levels. Assumes nothing.
use Rattle.ptype.proofs.GaugeLaws.{type-right}
use Rattle.ptype.proofs.depth_known.Goals as goal

pub returns : goal.returns
returns c = (c.depth_within.ensures, type-right _ _ _ c.depth_within.ensures)
