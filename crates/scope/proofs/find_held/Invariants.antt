-- `scope::find_held` meets its contract. The loop's invariant: the name is looked for among the packages that are left. A name is passed where a
-- part of it differs, or where it differs as a whole. Assumes nothing.
use Rattle.std.proofs.Common.{◌≡◌, ◌-◌}
use Rattle.tok.specs.Text.{texts_of, name_bytes}
use Rattle.scope.proofs.HeldWays.{Left}
use Rattle.scope.proofs.find_held.Given as goal

abbrev pub invariant-loop : goal.invariant-loop
invariant-loop l = (l.wanted ≡ name_bytes l.texts l.name) × Left l.texts l.wanted l.words l.scratch l.from l.k l.at (l.k - l.counter)
