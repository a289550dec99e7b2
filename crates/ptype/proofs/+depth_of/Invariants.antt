-- `depth_of` meets its contract. The levels fall. Assumes nothing.
use Rattle.ptype.proofs.+depth_of.Given as goal

abbrev pub decreases-depth_of : goal.decreases-depth_of
decreases-depth_of l = l.levels
