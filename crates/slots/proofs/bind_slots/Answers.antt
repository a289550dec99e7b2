-- `slots::bind_slots` meets its contract: 33 levels of `bind_within`. Assumes nothing.
use Rattle.ptype.specs.Words.{ty_of}
use Rattle.slots.proofs.bind_slots.Goals as goal

pub returns : goal.returns
unfolding ty_of
returns c = c.bind_within.ensures
