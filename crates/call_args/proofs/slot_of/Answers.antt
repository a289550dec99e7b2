-- `call_args::slot_of` meets its contract: the second word of the record. Assumes nothing.
use Rattle.call_args.proofs.Slots.{slot_is}
use Rattle.call_args.proofs.slot_of.Goals as goal

pub returns : goal.returns
returns c = slot_is c.requires c.node.ensures.place (rw c.node.ensures.same at c.word.ensures)
