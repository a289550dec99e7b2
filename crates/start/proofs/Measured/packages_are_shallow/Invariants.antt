-- `start::Measured::packages_are_shallow` meets its contract. The loop's invariant: whether all are shallow is whether those left are, and the place
-- lies in the list. Assumes nothing.
use mathlib.Core.Path.{◌≡◌}
use Rattle.std.proofs.Common.{◌-◌, ◌≤◌, length}
use Rattle.tok.specs.Text.{Texts}
use Rattle.add.specs.Pool.{all_shallow}
use Rattle.library.specs.Package.{packages_from, packages_of}
use Rattle.rules.specs.Walk.{package_types}
use Rattle.start.proofs.Measured.packages_are_shallow.Given as goal

abbrev pub invariant-loop : goal.invariant-loop
invariant-loop l =
    ((t : Texts) → all_shallow t l.initial.self (package_types (packages_of l.words)) ≡ all_shallow t l.initial.self (package_types (packages_from l.words l.at (l.count - l.counter))))
    × (l.at ≤ length l.words) × (l.self ≡ l.initial.self)
