-- `BoundSlot::is` meets its contract, by the kind of the word. Assumes nothing.
use mathlib.Core.Path.{sym, ◌∙◌}
use Rattle.ptype.specs.TypeKindLaws.{type-number, type-not}
use Rattle.slots.proofs.HasReturns.{slot-is, no_slot}
use Rattle.slots.proofs.BoundSlotSought.is.Goals as goal

pub returns-in-Slot : goal.returns-in-Slot
returns-in-Slot c = c.is_bound.ensures ∙ sym (slot-is _ _ c.args.w (type-number _ c.in-Slot.ensures))

pub returns-in_default : goal.returns-in_default
returns-in_default c = sym (no_slot _ _ c.args.w (type-not _ c.of.ensures c.in_default.not-Slot))
