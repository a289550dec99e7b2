-- `spans::cases_end` meets its contract. The loop's invariant, `EndLeft`: the cases that are left end where all do. Assumes nothing.
use Prim.Native.Nat.{◌-◌}
use Rattle.spans.proofs.Loops.{EndLeft}
use Rattle.spans.proofs.cases_end.Given as goal

abbrev pub invariant-loop : goal.invariant-loop
invariant-loop l = EndLeft l.node.image.now.words l.node.image.now.places l.node.n l.at l.k l.i (l.k - l.counter)
