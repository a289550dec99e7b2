-- `slotted_call::returned` meets its contract: the applied type is the slot's, or it is not added, for want of room (7) or for its depth (8).
-- Assumes nothing.
use Rattle.slotted_call.proofs.Returns.{returns-known, returns-refused}
use Rattle.slotted_call.proofs.returned.Goals as goal

pub returns-in_err-word : goal.returns-in_err-word
returns-in_err-word c = λ d m. returns-refused _ _ _ _ _ _ _ d m _ c.requires _ _ c.apply_slot_binding-added.ensures c.added.ensures c.in_err-word.was c.from_residual.ensures.1

pub returns : goal.returns
returns c = λ d m. returns-known _ _ _ _ _ _ _ d m _ c.requires _ _ c.apply_slot_binding-added.ensures c.added.ensures c.in_ok-word.was c.set_known.ensures
