-- `library_groups::function_places` meets its contract. The loop's invariant, `Placing`: k functions are listed.
-- Assumes nothing.
use Rattle.library_groups.proofs.PlaceWays.{Placing}
use Rattle.library_groups.proofs.function_places.Given as goal

abbrev pub invariant-loop-k : goal.invariant-loop-k
invariant-loop-k l = Placing l.words l.from l.initial.order l.order l.at l.k
