use Rattle.std.proofs.lemmas.Result.{err_from_is_err_and}
use Rattle.std.proofs.Common.{arith, ◌∙◌}
use Rattle.type_expr.proofs.FieldReturns.{building_all, before-end, before-deep, before-stop, before-next}
use Rattle.type_expr.proofs.deep_field.Goals as goal

pub loop-expr-init : goal.loop-expr-init
loop-expr-init c =
    let e = c.into_iter-expr-iterator.ensures.into_iter_gives ∙ c.iter-expr-items.ensures in
    record { building = building_all _ e; deep = rw e c.requires }

pub returns-then-levels-gt-MOST_LEVELS : goal.returns-then-levels-gt-MOST_LEVELS
returns-then-levels-gt-MOST_LEVELS c = before-deep c.loop-expr.invariant c.in-Some.ensures.steps c.levels.ensures c.if-levels-gt-MOST_LEVELS.true

pub build-requires : goal.build-requires
build-requires c = omega (arith, c.levels.ensures.0, c.if-levels-gt-MOST_LEVELS.false)

pub returns-in_err-build : goal.returns-in_err-build
returns-in_err-build c =
    let p = err_from_is_err_and c.from_residual.result c.from_residual.ensures.1 in
    rw (p.1, p.2) (before-stop c.loop-expr.invariant c.in-Some.ensures.steps c.levels.ensures c.if-levels-gt-MOST_LEVELS.false c.in_err-build.ensures)

pub loop-expr-preserved : goal.loop-expr-preserved
loop-expr-preserved c = before-next c.loop-expr.invariant c.in-Some.ensures.steps c.levels.ensures c.if-levels-gt-MOST_LEVELS.false c.in_ok-build.ensures

pub returns : goal.returns
returns c = absurd (before-end c.loop-expr.invariant c.in-None.ensures.steps.0)
