-- `start::Measured::arguments_are_shallow` meets its contract. The loop's invariant: whether all are shallow is whether those from argument i on are. Assumes nothing.
use mathlib.Core.Path.{◌≡◌}
use lib.ListN.{length, drop}
use Rattle.tok.specs.Text.{Texts}
use Rattle.add.specs.Pool.{all_shallow}
use Rattle.rules.specs.Walk.{param_types}
use Rattle.start.proofs.Measured.arguments_are_shallow.Given as goal

abbrev pub invariant-loop-i : goal.invariant-loop-i
invariant-loop-i l = let P = l.signature.params in
    ((t : Texts) → all_shallow t l.initial.self (param_types P) ≡ all_shallow t l.initial.self (param_types (drop l.i P))) × (l.i-end ≡ length P) × (l.self ≡ l.initial.self)
