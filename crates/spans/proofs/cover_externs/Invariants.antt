-- `spans::cover_externs` meets its contract. The loop's invariant, `ExternsLeft`: what is left to cover gives the whole. Assumes nothing.
use Prim.Native.Nat.{◌-◌}
use Rattle.spans.proofs.Loops.{ExternsLeft}
use Rattle.spans.proofs.cover_externs.Given as goal

abbrev pub invariant-loop : goal.invariant-loop
invariant-loop l = ExternsLeft l.image.words l.image.places l.initial.covered l.at l.k l.covered l.i (l.k - l.counter)
