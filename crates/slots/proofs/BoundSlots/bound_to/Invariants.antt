-- `BoundSlots::bound_to` meets its contract. The loop's invariant: what the slot is bound to is what it is bound to among the first k pairs.
-- Assumes nothing.
use mathlib.Core.Path.{◌≡◌}
use Rattle.tok.specs.Text.{name_bytes}
use Rattle.ptype.specs.Slots.{bound_to}
use Rattle.slots.specs.Bindings.{first_pairs, bound_slots}
use Rattle.slots.proofs.BoundSlots.bound_to.Given as goal

abbrev pub invariant-loop-k : goal.invariant-loop-k
invariant-loop-k l = bound_to (name_bytes l.texts l.slot) (bound_slots l.texts l.self)
    ≡ bound_to (name_bytes l.texts l.slot) (first_pairs l.texts l.self.pairs.now l.k)
