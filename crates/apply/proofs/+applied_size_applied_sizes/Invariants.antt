-- `apply::applied_size` and `apply::applied_sizes` meet their contracts: by the equations of `size_within` for each kind. The depth falls.
-- The loop's invariant: what was summed, with what is left, is the whole. Assumes nothing.
use mathlib.Core.Path.{◌≡◌}
use Rattle.slots.specs.Bindings.{bound_slots}
use Rattle.apply.specs.Sizes.{sizes_of, size_within}
use Prim.Native.Nat.{◌+◌, ◌-◌, ◌*◌}
use Rattle.apply.proofs.+applied_size_applied_sizes.Given as goal

abbrev pub decreases-applied_size : goal.decreases-applied_size
decreases-applied_size l = l.depth * 2

abbrev pub decreases-applied_sizes : goal.decreases-applied_sizes
decreases-applied_sizes l = l.depth * 2 + 1

abbrev pub invariant-applied_sizes-loop-i : goal.invariant-applied_sizes-loop-i
invariant-applied_sizes-loop-i l =
    let T = l.old.texts.now in
    let W = l.old.words.now in
    let sizes = sizes_of (size_within T (bound_slots T l.bindings) W l.depth) W in
    sizes l.at l.fields ≡ l.sum + sizes (l.at + 2 * l.i) (l.fields - l.i)
