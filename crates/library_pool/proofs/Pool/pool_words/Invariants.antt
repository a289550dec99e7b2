-- `library_pool::Pool::pool_words` meets its contract. The loop's invariant, `PoolLeft`: the pool is read as what is left of it is, from where the loop stands.
-- The measure is what is left of the size. Assumes nothing.
use Rattle.std.proofs.Common.{◌-◌}
use Rattle.library_pool.proofs.PoolWays.{PoolLeft}
use Rattle.library_pool.proofs.Pool.pool_words.Given as goal

abbrev pub invariant-loop-i : goal.invariant-loop-i
invariant-loop-i l = PoolLeft l.self.text.now l.self.words.now l.size l.initial.to l.to l.i

abbrev pub decreases-loop-i : goal.decreases-loop-i
decreases-loop-i l = l.size - l.i
