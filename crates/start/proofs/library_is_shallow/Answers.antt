-- `start::library_is_shallow` meets its contract: the pool, and then the packages. Assumes nothing.
use Rattle.start.specs.Measured.{library-deep, library-by}
use Rattle.start.proofs.library_is_shallow.Goals as goal

pub returns-then-not-pool_is_shallow : goal.returns-then-not-pool_is_shallow
returns-then-not-pool_is_shallow c =
    λ t. library-deep t c.args.types.now c.args.words.now c.pool.ensures (c.pool_is_shallow.ensures.1 t) c.if-not-pool_is_shallow.true

pub returns : goal.returns
returns c =
    λ t. library-by t c.args.types.now c.args.words.now c.pool.ensures (c.pool_is_shallow.ensures.1 t) c.if-not-pool_is_shallow.false
    (c.packages_are_shallow.ensures.0 t)
