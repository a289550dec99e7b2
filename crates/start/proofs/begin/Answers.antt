-- `start::begin` meets its contract: one law for each return. Assumes nothing.
use Rattle.start.proofs.Begins.{begin-full, begin-deep, begin-on}
use Rattle.start.proofs.begin.Goals as goal

pub returns-then-not-copy_pool : goal.returns-then-not-copy_pool
returns-then-not-copy_pool c =
    begin-full c.args.image.now c.args.words.now c.args.slots.now c.args.types.now c.node_count-nodes.ensures c.slot_count.ensures c.empty_slots.ensures c.pool-pool.ensures
    c.copy_pool.ensures c.if-not-copy_pool.true

pub returns-then-not-library_is_shallow : goal.returns-then-not-library_is_shallow
returns-then-not-library_is_shallow c =
    begin-deep c.args.image.now c.args.words.now c.args.slots.now c.args.types.now c.node_count-nodes.ensures c.slot_count.ensures c.empty_slots.ensures c.pool-pool.ensures
    c.copy_pool.ensures c.library_is_shallow.ensures c.if-not-copy_pool.false c.if-not-library_is_shallow.true

pub returns : goal.returns
returns c =
    begin-on c.args.image.now c.args.words.now c.args.slots.now c.args.types.now c.node_count-nodes.ensures c.slot_count.ensures c.empty_slots.ensures c.pool-pool.ensures
    c.copy_pool.ensures c.library_is_shallow.ensures c.if-not-copy_pool.false c.if-not-library_is_shallow.false c.first_state.ensures
