-- `apply::set_pairs` meets its contract. The loop's invariant: all pairs written are those that are left, written over what was set.
-- Assumes nothing.
use Prim.Native.Nat.{◌+◌, ◌-◌, ◌*◌}
use Rattle.slots.specs.Bindings.{bound_slots}
use Rattle.apply.proofs.FieldReturns.{Writing}
use Rattle.apply.proofs.set_pairs.Given as goal

abbrev pub invariant-loop-i : goal.invariant-loop-i
invariant-loop-i l =
    let bound = bound_slots l.texts l.bindings in
    Writing l.texts bound l.depth l.base l.initial.types l.used l.at l.fields l.place l.types l.end (l.at + 2 * l.i) (l.fields - l.i) (l.place + 2 * l.i)
