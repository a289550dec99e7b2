-- `claims::mark_run` meets its contract. The loop's invariant, `ToMark`: what is left to mark gives the whole. Assumes nothing.
use Prim.Native.Nat.{◌-◌}
use Rattle.node_parts.specs.Runs.{place_of}
use Rattle.claims.proofs.MarkWays.{ToMark}
use Rattle.claims.proofs.mark_run.Given as goal

abbrev pub invariant-loop-k : goal.invariant-loop-k
invariant-loop-k l = ToMark l.words l.run.step l.run.from l.run.count l.initial.marks l.marks (place_of l.run l.k) (l.run.count - l.k)
