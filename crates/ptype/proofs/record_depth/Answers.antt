-- `record_depth` meets its contract: no marks at first. Assumes nothing.
use Rattle.ptype.proofs.GaugeLaws.{list-fresh}
use Rattle.ptype.proofs.record_depth.Goals as goal

pub returns-then-is_small : goal.returns-then-is_small
returns-then-is_small c = list-fresh _ _ _ 0 c.deepest_of.ensures

pub returns-else-is_small : goal.returns-else-is_small
returns-else-is_small c = list-fresh _ _ _ 8192 c.deepest_of-else-is_small.ensures
