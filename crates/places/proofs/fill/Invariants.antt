-- `places::fill` meets its contract. The loop's invariant, `Filling`: what is left to fill gives the whole. Assumes nothing.
use Prim.Native.Nat.{◌+◌, ◌-◌}
use Rattle.places.proofs.Filling.{Filling}
use Rattle.places.proofs.fill.Given as goal

abbrev pub invariant-loop-i : goal.invariant-loop-i
invariant-loop-i l = Filling l.image l.index l.count l.first l.initial.places l.i (l.index + l.count - l.i) l.at l.places
