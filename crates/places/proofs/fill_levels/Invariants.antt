-- `places::fill_levels` meets its contract. The loop's invariant, `Levelling`: what is left to fill gives the whole. Assumes nothing.
use Rattle.places.proofs.Levelling.{Levelling}
use Rattle.places.proofs.fill_levels.Given as goal

abbrev pub invariant-loop-t : goal.invariant-loop-t
invariant-loop-t l = Levelling l.image l.types l.initial.places l.t l.places
