use Rattle.std.proofs.Common.{arith, ◌∙◌}
use Rattle.type_expr.proofs.FieldReturns.{writing_all, writing_end, writing_fits, writing_room, writing_next}
use Rattle.type_expr.proofs.set_pairs.Goals as goal

pub loop-name-init : goal.loop-name-init
loop-name-init c = writing_all _ (c.into_iter-name-iterator.ensures.into_iter_gives ∙ c.iter-name-items.ensures) c.requires.0

pub type_size-end-requires : goal.type_size-end-requires
type_size-end-requires c = omega (arith, writing_fits c.loop-name.invariant c.in-Some.ensures.steps)

pub overflow_add-end : goal.overflow_add-end
overflow_add-end c = omega (arith, writing_fits c.loop-name.invariant c.in-Some.ensures.steps, c.type_size-end.ensures)

pub type_word-requires : goal.type_word-requires
type_word-requires c =
    let fits = writing_fits c.loop-name.invariant c.in-Some.ensures.steps in
    (omega (arith, c.type_size-end.ensures), omega (arith, fits, c.type_size-end.ensures))

pub overflow_add-to : goal.overflow_add-to
overflow_add-to c = omega (arith, writing_room c.loop-name.invariant c.in-Some.ensures.steps, c.requires.1)

pub loop-name-preserved : goal.loop-name-preserved
loop-name-preserved c = writing_next c.loop-name.invariant c.in-Some.ensures.steps c.type_size-end.ensures c.type_word.ensures c.set_pair.ensures

pub returns : goal.returns
returns c = writing_end c.loop-name.invariant c.in-None.ensures.steps.0
