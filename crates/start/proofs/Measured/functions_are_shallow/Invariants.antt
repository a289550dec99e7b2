-- `start::Measured::functions_are_shallow` meets its contract. The loop's invariant: whether all are shallow is whether those left are. Assumes nothing.
use mathlib.Core.Path.{◌≡◌}
use Rattle.std.proofs.Common.{◌-◌}
use Rattle.tok.specs.Text.{Texts}
use Rattle.add.specs.Pool.{all_shallow}
use Rattle.library.specs.Package.{functions_from}
use Rattle.rules.specs.Walk.{function_types}
use Rattle.start.proofs.Measured.functions_are_shallow.Given as goal

abbrev pub invariant-loop : goal.invariant-loop
invariant-loop l =
    ((t : Texts) → all_shallow t l.initial.self (function_types (functions_from l.words l.from l.k)) ≡ all_shallow t l.initial.self (function_types (functions_from l.words l.at (l.k - l.counter))))
    × (l.self ≡ l.initial.self)
