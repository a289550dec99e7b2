-- `places::most_levels` meets its contract. The loop's invariant, `Most`: what is left gives the whole. Assumes nothing.
use Prim.Native.Nat.{◌+◌, ◌*◌, ◌-◌}
use Rattle.places.proofs.Levelling.{Most}
use Rattle.places.proofs.most_levels.Given as goal

abbrev pub invariant-loop-field : goal.invariant-loop-field
invariant-loop-field l = Most l.image l.places l.at l.fields l.most (l.at + 2 * l.field) (l.fields - l.field)
