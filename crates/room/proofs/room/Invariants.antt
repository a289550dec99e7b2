-- `room::room` meets its contract. The loop's invariant, `ToFit`: the words that are left and the nodes that are left give the whole.
-- Assumes nothing.
use Rattle.room.proofs.Ways.{ToFit}
use Rattle.room.proofs.room.Given as goal

abbrev pub invariant-loop : goal.invariant-loop
invariant-loop l = ToFit l.words l.n l.functions l.at l.left l.counter
