-- `slotted::applied` meets its contract: the applied type is compared, or it is not added, for want of room (7) or for its depth (8). Assumes
-- nothing.
use Rattle.slotted.proofs.Returns.{applied_refused, applied_compared}
use Rattle.slotted.proofs.applied.Goals as goal

pub returns-in_err-word : goal.returns-in_err-word
returns-in_err-word c = applied_refused c.requires.0 c.requires.1 _ _ c.apply_slot_binding-added.ensures c.added.ensures c.in_err-word.was c.from_residual.ensures.1

pub returns : goal.returns
returns c = applied_compared c.requires.0 c.requires.1 _ _ c.apply_slot_binding-added.ensures c.added.ensures c.in_ok-word.was c.compared.ensures
