use Rattle.std.proofs.Common.{sym, ◌∙◌, []}
use Rattle.library_pool.proofs.PoolWays.{fields-turn}
use Rattle.library_pool.proofs.Pool.fields.Goals as goal

pub loop-k-preserved : goal.loop-k-preserved
loop-k-preserved c = (
  (c.in_ok-to.ensures [] 0).1 ∙ c.in_ok-at.ensures.1 ∙ c.loop-k.invariant.0,
  λ script size. sym (fields-turn _ c.args.n c.loop-k.k c.args.i c.loop-k-test.true _ _ _ c.in_ok-at.ensures (c.in_ok-to.ensures script size)) ∙ c.loop-k.invariant.1 script size,
)
