use Rattle.std.proofs.lemmas.Result.{err_from_is_err_and}
use Rattle.library_pool.proofs.PoolWays.{pool-begin, pool-turn, pool-head_stops, pool-fields_stop, pool-done}
use Rattle.library_pool.proofs.Pool.pool_words.Goals as goal

pub loop-i-init : goal.loop-i-init
loop-i-init c = pool-begin

pub returns-in_err-at : goal.returns-in_err-at
returns-in_err-at c = λ script.
    let p = err_from_is_err_and c.from_residual.result c.from_residual.ensures.1 in
    rw (p.1, p.2) (pool-head_stops c.loop-i.invariant c.loop-i-test.true _ _ c.next_word-w.ensures c.good_pool_word.ensures _ c.in_err-at.ensures script)

pub returns-in_err-to : goal.returns-in_err-to
returns-in_err-to c = λ script.
    let p = err_from_is_err_and c.from_residual-in_err-to.result c.from_residual-in_err-to.ensures.1 in
    rw (p.1, p.2) (pool-fields_stop c.loop-i.invariant c.loop-i-test.true _ _ c.next_word-w.ensures c.good_pool_word.ensures _ c.in_ok-at.ensures _ c.pairs_after-n.ensures _ c.in_err-to.ensures script)

pub loop-i-preserved : goal.loop-i-preserved
loop-i-preserved c = pool-turn c.loop-i.invariant c.loop-i-test.true _ _ c.next_word-w.ensures c.good_pool_word.ensures _ c.in_ok-at.ensures _ c.pairs_after-n.ensures _ c.in_ok-to.ensures

pub returns : goal.returns
returns c = λ script. pool-done c.loop-i.invariant c.loop-i-test.false script
