-- `depth::deepest_run` meets its contract. The loop's invariant, `ToMeasure`: the depth so far and those that are left give the whole.
-- Assumes nothing.
use Prim.Native.Nat.{◌-◌}
use Rattle.node_parts.specs.Runs.{place_of}
use Rattle.depth.proofs.PartWays.{ToMeasure}
use Rattle.depth.proofs.deepest_run.Given as goal

abbrev pub invariant-loop-k : goal.invariant-loop-k
invariant-loop-k l = ToMeasure l.words l.depths l.run.step l.run.from l.run.count (place_of l.run l.k) (l.run.count - l.k) l.d
