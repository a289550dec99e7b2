-- `spans::cover_args` meets its contract. The loop's invariant, `ArgsLeft`: what is left to cover gives the whole. Assumes nothing.
use Prim.Native.Nat.{◌+◌, ◌*◌, ◌-◌}
use Rattle.spans.proofs.Loops.{ArgsLeft}
use Rattle.spans.proofs.cover_args.Given as goal

abbrev pub invariant-loop-i : goal.invariant-loop-i
invariant-loop-i l = ArgsLeft l.image.words l.image.places l.initial.covered l.at l.k l.covered (l.at + 2 * l.i) (l.k - l.i)
