-- `scope::Own::find` meets its contract. The loop's invariant: what was found is the newest of those met. Assumes nothing.
use Rattle.std.proofs.Common.{◌≡◌, ◌-◌}
use Rattle.tok.specs.Text.{texts_of, name_bytes}
use Rattle.scope.proofs.OwnWays.{Left, Seeks}
use Rattle.scope.proofs.Own.find.Given as goal

abbrev pub invariant-loop : goal.invariant-loop
invariant-loop l =
    (l.wanted ≡ name_bytes l.texts l.name)
    × (Left l.self-inside.words.now l.self-inside.count l.entry (l.self-inside.count - l.counter)
    × Seeks l.texts l.wanted l.self-inside.words.now l.self-inside.count l.entry (l.self-inside.count - l.counter) l.found)
