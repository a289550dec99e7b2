-- `slotted::after_binding` meets its contract, by cases of why a slot is not bound. Assumes nothing.
use Rattle.slotted.proofs.Returns.{after-conflict, after-void, after_none}
use Rattle.slotted.proofs.after_binding.Goals as goal

pub returns-in-Conflict : goal.returns-in-Conflict
returns-in-Conflict c = after-conflict c.in-Err.is c.in-Conflict.is c.slot_conflict-reported.ensures.reports c.told.ensures

pub returns-in-Void : goal.returns-in-Void
returns-in-Void c = after-void c.in-Err.is c.in-Void.is c.slot_void-reported.ensures.reports c.told-in-Void.ensures

pub returns-in-NoRoom : goal.returns-in-NoRoom
returns-in-NoRoom c = after_none c.in-Err.is c.in-NoRoom.is
