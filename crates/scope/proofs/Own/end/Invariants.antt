-- `scope::Own::end` meets its contract. The loop's invariant: the entries left end where all end. Assumes nothing.
use Rattle.std.proofs.Common.{◌-◌}
use Rattle.scope.proofs.OwnWays.{Left}
use Rattle.scope.proofs.Own.end.Given as goal

abbrev pub invariant-loop : goal.invariant-loop
invariant-loop l = Left l.self-inside.words.now l.self-inside.count l.at (l.self-inside.count - l.counter)
