-- `slotted::slotted_argument` meets its contract: an argument that is not checked, one that contains a Slot, or a binding and what it leads
-- to. Assumes nothing.
use Rattle.slotted.proofs.Returns.{slotted-unchecked, slotted-slot, slotted-bound}
use Rattle.slotted.proofs.slotted_argument.Goals as goal

pub returns-then-is_unchecked : goal.returns-then-is_unchecked
returns-then-is_unchecked c = slotted-unchecked _ _ _ _ _ _ _ _ _ _ _ _ _ c.word_at-w.ensures c.is_unchecked.ensures c.if-is_unchecked.true

pub returns-then-contains_slot : goal.returns-then-contains_slot
returns-then-contains_slot c = slotted-slot _ _ _ _ _ _ _ _ _ _ _ _ _ c.word_at-w.ensures c.is_unchecked.ensures c.if-is_unchecked.false c.contains_slot.ensures c.if-contains_slot.true

pub returns : goal.returns
returns c =
    slotted-bound _ _ _ _ _ _ _ _ _ _ _ _ _ c.word_at-w.ensures c.is_unchecked.ensures c.if-is_unchecked.false c.contains_slot.ensures c.requires c.bind_slots-bound.ensures c.if-contains_slot.false
    (rw (← c.bound-held.ensures.0, ← c.bound-held.ensures.1) c.after_binding.ensures)
