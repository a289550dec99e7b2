-- `functions::copy_pairs` meets its contract. The loop's invariant: k pairs are copied. Assumes nothing.
use mathlib.Core.Path.{◌≡◌}
use Rattle.ptype.specs.Add.{write}
use Rattle.library.specs.Package.{params_from}
use Rattle.rules.specs.Steps.{pairs_of}
use Rattle.functions.specs.Entering.{CopyRoom}
use Rattle.functions.proofs.copy_pairs.Given as goal

abbrev pub invariant-loop-k : goal.invariant-loop-k
invariant-loop-k l = CopyRoom l.initial.functions l.at l.from l.count × (l.functions ≡ write l.initial.functions l.at (pairs_of (params_from l.scratch l.from l.k)))
