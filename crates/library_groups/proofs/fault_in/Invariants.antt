-- `library_groups::fault_in` meets its contract. The loop's invariant: the ranks before i are looked at.
-- Assumes nothing.
use Rattle.library_groups.specs.Kept.{FaultsFrom}
use Rattle.library_groups.proofs.fault_in.Given as goal

abbrev pub invariant-loop-entry : goal.invariant-loop-entry
invariant-loop-entry l = FaultsFrom l.words l.group 0 l.entry-index l.low l.most l.best
