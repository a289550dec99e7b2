-- `library_groups::first_fault` meets its contract. The loop's invariant, `FaultsTo`: the groups before those that are left are looked at.
-- Assumes nothing.
use Rattle.std.proofs.Common.{◌≡◌, length}
use Rattle.library_groups.proofs.FaultWays.{FaultsTo}
use Rattle.library_groups.proofs.first_fault.Given as goal

abbrev pub invariant-loop-group : goal.invariant-loop-group
invariant-loop-group l = (l.group-iterator.order ≡ l.order) × FaultsTo l.words l.order (length l.order) l.most l.group-iterator.at l.best
