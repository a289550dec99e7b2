-- `library::functions_end` meets its contract. The loop's invariant, `FunctionsLeft`: the end of those that are left is the end of all.
-- Assumes nothing.
use Rattle.std.proofs.Common.{◌-◌}
use Rattle.library.proofs.AccessWays.{FunctionsLeft}
use Rattle.library.proofs.functions_end.Given as goal

abbrev pub invariant-loop : goal.invariant-loop
invariant-loop l = FunctionsLeft l.words l.from l.k l.at (l.k - l.counter)
