-- `claims::mark_count` meets its contract. The loop's invariant, `CountToMark`: what is left to mark gives the whole. Assumes nothing.
use Prim.Native.Nat.{◌+◌, ◌-◌}
use Rattle.claims.proofs.MarkWays.{CountToMark}
use Rattle.claims.proofs.mark_count.Given as goal

abbrev pub invariant-loop-x : goal.invariant-loop-x
invariant-loop-x l = CountToMark l.first l.n l.initial.marks l.marks l.x (l.first + l.n - l.x)
