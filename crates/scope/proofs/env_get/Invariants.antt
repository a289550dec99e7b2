-- `scope::env_get` meets its contract. The loop's invariant: the name is looked for among the oldest k names. Assumes nothing.
use mathlib.Core.Path.{◌≡◌}
use Rattle.tok.specs.Text.{texts_of, name_bytes}
use Rattle.scope.proofs.EnvWays.{EnvLeft}
use Rattle.scope.proofs.env_get.Given as goal

abbrev pub invariant-loop-k : goal.invariant-loop-k
invariant-loop-k l = (l.wanted ≡ name_bytes l.texts l.name) × EnvLeft l.texts l.wanted l.scratch l.names.base l.names.depth l.k

abbrev pub decreases-loop-k : goal.decreases-loop-k
decreases-loop-k l = l.k
