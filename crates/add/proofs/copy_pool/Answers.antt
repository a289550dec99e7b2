-- `add::copy_pool` meets its contract: one law for each return. Assumes nothing.
use Rattle.add.proofs.Returns.{copy_full, copy_all}
use Rattle.add.proofs.copy_pool.Goals as goal

pub returns-then-n-type_room : goal.returns-then-n-type_room
returns-then-n-type_room c = copy_full _ _ c.type_room.ensures c.if-n-type_room.true

pub returns : goal.returns
returns c = rw c.copy.ensures (copy_all _ _ c.type_room.ensures c.if-n-type_room.false)
