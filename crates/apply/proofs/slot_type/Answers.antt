-- `apply::slot_type` meets its contract by that of `bound_to`. Assumes nothing.
use Rattle.apply.proofs.Returns.{slot_or}
use Rattle.apply.proofs.slot_type.Goals as goal

pub returns : goal.returns
returns c = slot_or c.args.slot c.bound_to.result c.bound_to.ensures c.unwrap_or.ensures
