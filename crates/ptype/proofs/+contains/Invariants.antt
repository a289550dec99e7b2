-- `contains` meets its contract. The levels fall. Assumes nothing.
use Rattle.ptype.proofs.+contains.Given as goal

abbrev pub decreases-contains : goal.decreases-contains
decreases-contains g l = l.depth
