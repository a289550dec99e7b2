-- `add::pool_is_shallow` meets its contract. The loop's invariant: what is found of all is what is found of the words from i on. Assumes nothing.
use mathlib.Core.Path.{◌≡◌}
use lib.ListN.{length, drop}
use Rattle.add.specs.ShallowBy.{all_shallow_by}
use Rattle.add.proofs.pool_is_shallow.Given as goal

abbrev pub invariant-loop-w : goal.invariant-loop-w
invariant-loop-w l = (all_shallow_by l.types l.pool l.initial.known ≡ all_shallow_by l.types (drop l.w-index l.pool) l.known) × (length l.known ≡ length l.initial.known)
