-- `start::empty_slots` meets its contract: zeros, and then Void. Assumes nothing.
use Rattle.start.proofs.Begins.{slots_emptied}
use Rattle.start.proofs.empty_slots.Goals as goal

pub returns : goal.returns
returns c = slots_emptied c.args.slots.now c.args.void c.zero_first.ensures c.store.ensures
