use Rattle.std.proofs.lemmas.Result.{err_from_is_err_and}
use Rattle.std.proofs.Common.{rules, arith, refl}
use Rattle.type_expr.proofs.DeepReturns.{same_stop, same_next, same_end}
use Rattle.type_expr.proofs.type_from_type_expr.Goals as goal

pub loop-arena-init : goal.loop-arena-init
loop-arena-init c = record { is = λ T n. refl; lent = refl; keeps = refl }

pub returns-in_err-here : goal.returns-in_err-here
returns-in_err-here c =
    let p = err_from_is_err_and c.from_residual.result c.from_residual.ensures.1 in
    rw (p.1, p.2) (same_stop c.loop-arena.invariant c.new-arena.ensures.as_used c.in_err-here.ensures)

pub loop-arena-smaller : goal.loop-arena-smaller
loop-arena-smaller c = c.in_ok-here.ensures.part _ refl

pub loop-arena-preserved : goal.loop-arena-preserved
loop-arena-preserved c = same_next c.loop-arena.invariant c.in_ok-here.ensures

pub build-word-requires : goal.build-word-requires
build-word-requires c = omega (arith, c.levels.ensures.0, c.loop-arena-test.false)

pub returns : goal.returns
returns c = same_end c.loop-arena.invariant c.new-arena.ensures.as_used c.build-word.ensures c.answer.ensures (search rules)
