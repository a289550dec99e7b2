-- `library_slots::slot_places` meets its contract. The loop's invariant, `Listing`: the slots before place i are listed. Assumes nothing.
use Rattle.library_slots.proofs.NamedWays.{Listing}
use Rattle.library_slots.proofs.slot_places.Given as goal

abbrev pub invariant-loop-i : goal.invariant-loop-i
invariant-loop-i l = Listing l.words l.initial.order l.order l.n l.i
