-- `functions::enter` meets its contract: the entry in parts. Assumes nothing.
use Rattle.functions.specs.Entering.{enter-parts}
use Rattle.functions.proofs.Returns.{pairs-room}
use Rattle.functions.proofs.enter.Goals as goal

pub copy_pairs-requires : goal.copy_pairs-requires
copy_pairs-requires c = pairs-room _ c.requires c.end-at.ensures c.set_pair.ensures

pub returns : goal.returns
returns c = rw (← c.end-at.ensures) (enter-parts c.args.functions.now c.args.scratch.now _ c.args.from c.args.name c.args.count c.args.ret c.set_pair.ensures c.copy_pairs.ensures c.store.ensures)
