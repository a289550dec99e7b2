-- `apply::apply_within` and `apply::apply_fields` meet their contracts: one law for each return. The depth falls. The loop's invariant: the
-- steps of all fields go on with those of the fields that are left, and the words that the type is read from are as they were.
-- Assumes nothing.
use Rattle.slots.specs.Bindings.{bound_slots}
use Rattle.apply.proofs.FieldReturns.{Applying}
use Prim.Native.Nat.{◌+◌, ◌-◌, ◌*◌}
use Rattle.apply.proofs.+apply_fields_apply_within.Given as goal

abbrev pub decreases-apply_fields : goal.decreases-apply_fields
decreases-apply_fields l = l.depth * 2 + 1

abbrev pub decreases-apply_within : goal.decreases-apply_within
decreases-apply_within l = l.depth * 2

abbrev pub invariant-apply_fields-loop-i : goal.invariant-apply_fields-loop-i
invariant-apply_fields-loop-i l =
    let bound = bound_slots l.texts l.bindings in
    Applying l.texts bound l.depth l.base l.initial.arena l.at l.fields l.arena (l.at + 2 * l.i) (l.fields - l.i)
