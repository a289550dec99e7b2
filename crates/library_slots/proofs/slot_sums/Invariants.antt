-- `library_slots::slot_sums` meets its contract. The loop's invariant, `Summed`: the counts up to index i are filled in.
-- Assumes nothing.
use Rattle.library_slots.proofs.SumWays.{Summed}
use Rattle.library_slots.proofs.slot_sums.Given as goal

abbrev pub invariant-loop-i : goal.invariant-loop-i
invariant-loop-i l = Summed l.pool l.sums l.i-end l.i
