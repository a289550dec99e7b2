-- `depth::depth_by` meets its contract. The loop's invariant, `NodesToMeasure`: the depths of the nodes that are left give the whole.
-- Assumes nothing.
use Rattle.depth.proofs.NodeWays.{NodesToMeasure}
use Rattle.depth.proofs.depth_by.Given as goal

abbrev pub invariant-loop-i : goal.invariant-loop-i
invariant-loop-i l = NodesToMeasure l.words l.n l.initial.depths l.depths l.at l.i
