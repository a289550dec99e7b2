-- `fields::set_pairs` meets its contract. The loop's invariant, `Paired`: i pairs are set; the measure is how many are left. Assumes nothing.
use Prim.Native.Nat.{◌+◌, ◌≤◌}
use mathlib.Core.Path.{◌≡◌}
use lib.ListN.{length}
use Rattle.fields.proofs.Returns.{Paired}
use Rattle.fields.proofs.set_pairs.Given as goal

abbrev pub invariant-loop-i : goal.invariant-loop-i
invariant-loop-i l = Paired l.node.image.now.words l.slots (l.node.at + 3) l.to l.initial.types l.i l.types × (l.i ≤ l.count) × (length l.types ≡ length l.initial.types)
