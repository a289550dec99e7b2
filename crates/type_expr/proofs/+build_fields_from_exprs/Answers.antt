use Rattle.std.proofs.lemmas.Result.{err_from_is_err_and}
use Rattle.std.proofs.Common.{arith, refl, ◌∙◌}
use Rattle.type_expr.proofs.Returns.{levels-option, levels-array, levels_record}
use Rattle.type_expr.proofs.BuildReturns.{from-atom, from-foreign, record_refused, record_closed, option-stop, option-put, array-stop, array-put}
use Rattle.type_expr.proofs.FieldReturns.{building_all, building_levels, building_stop, building_next, record_stop, record_room, record_put}
use Rattle.type_expr.proofs.+build_fields_from_exprs.Goals as goal

pub build-fields_from_exprs-requires : goal.build-fields_from_exprs-requires
build-fields_from_exprs-requires t c =
    (omega (arith, c.decreases, levels_record c.in-Record.ensures), omega (arith, c.requires, levels_record c.in-Record.ensures))

pub build-returns-in_err-word-in-Record : goal.build-returns-in_err-word-in-Record
build-returns-in_err-word-in-Record t c =
    let p = err_from_is_err_and c.from_residual.result c.from_residual.ensures.1 in
    rw (p.1, p.2) (record_refused _ c.in-Record.ensures c.in_err-word-in-Record.ensures)

pub build-returns-in_ok-word-in-Record : goal.build-returns-in_ok-word-in-Record
build-returns-in_ok-word-in-Record t c = record_closed _ c.in-Record.ensures c.in_ok-word-in-Record.ensures c.close_record.ensures

pub build-returns-in-Atom : goal.build-returns-in-Atom
build-returns-in-Atom t c = from-atom c.in-Atom.ensures c.word.ensures

pub build-returns-in-Foreign : goal.build-returns-in-Foreign
build-returns-in-Foreign t c = from-foreign c.in-Foreign.ensures c.foreign_word.ensures

pub build-build-requires : goal.build-build-requires
build-build-requires t c = (omega (arith, c.decreases, levels-option c.in-Option.ensures), omega (arith, c.requires, levels-option c.in-Option.ensures))

pub build-returns-in_err-word-in-Option : goal.build-returns-in_err-word-in-Option
build-returns-in_err-word-in-Option t c =
    let p = err_from_is_err_and c.from_residual-in_err-word-in-Option.result c.from_residual-in_err-word-in-Option.ensures.1 in
    rw (p.1, p.2) (option-stop c.in-Option.ensures c.in_err-word-in-Option.ensures)

pub build-returns-in_ok-word-in-Option : goal.build-returns-in_ok-word-in-Option
build-returns-in_ok-word-in-Option t c = option-put c.in-Option.ensures c.in_ok-word-in-Option.ensures c.add_option.ensures.allocates

pub build-build-requires-in-Array : goal.build-build-requires-in-Array
build-build-requires-in-Array t c = (omega (arith, c.decreases, levels-array c.in-Array.ensures), omega (arith, c.requires, levels-array c.in-Array.ensures))

pub build-returns-in_err-word-in-Array : goal.build-returns-in_err-word-in-Array
build-returns-in_err-word-in-Array t c =
    let p = err_from_is_err_and c.from_residual-in_err-word-in-Array.result c.from_residual-in_err-word-in-Array.ensures.1 in
    rw (p.1, p.2) (array-stop c.in-Array.ensures c.in_err-word-in-Array.ensures)

pub build-returns-in_ok-word-in-Array : goal.build-returns-in_ok-word-in-Array
build-returns-in_ok-word-in-Array t c = array-put c.in-Array.ensures c.in_ok-word-in-Array.ensures c.add_array.ensures.allocates

pub fields_from_exprs-loop-expr-init : goal.fields_from_exprs-loop-expr-init
fields_from_exprs-loop-expr-init t c = building_all _ (c.into_iter-expr-iterator.ensures.into_iter_gives ∙ c.iter-expr-items.ensures)

pub fields_from_exprs-build-requires : goal.fields_from_exprs-build-requires
fields_from_exprs-build-requires t c =
    let l = building_levels c.loop-expr.invariant c.in-Some.ensures.steps in
    (omega (arith, c.decreases, l), omega (arith, c.requires, l))

pub fields_from_exprs-returns-in_err-build : goal.fields_from_exprs-returns-in_err-build
fields_from_exprs-returns-in_err-build t c =
    let p = err_from_is_err_and c.from_residual.result c.from_residual.ensures.1 in
    rw (p.1, p.2) (building_stop c.loop-expr.invariant c.in-Some.ensures.steps c.in_err-build.ensures)

pub fields_from_exprs-loop-expr-preserved : goal.fields_from_exprs-loop-expr-preserved
fields_from_exprs-loop-expr-preserved t c = building_next c.loop-expr.invariant c.in-Some.ensures.steps c.in_ok-build.ensures

pub fields_from_exprs-returns-in_err-word : goal.fields_from_exprs-returns-in_err-word
fields_from_exprs-returns-in_err-word t c =
    let p = err_from_is_err_and c.from_residual-in_err-word.result c.from_residual-in_err-word.ensures.1 in
    rw (p.1, p.2) (record_stop c.loop-expr.invariant c.in-None.ensures.steps.0 (rw c.len.ensures.0 at c.in_err-word.ensures.allocates))

pub fields_from_exprs-set_pairs-requires : goal.fields_from_exprs-set_pairs-requires
fields_from_exprs-set_pairs-requires t c = (
  record_room c.loop-expr.invariant c.in-None.ensures.steps.0 (rw c.len.ensures.0 at c.in_ok-word.ensures.allocates),
  omega (arith, c.payload.ensures, c.len.ensures),
)

pub fields_from_exprs-returns : goal.fields_from_exprs-returns
fields_from_exprs-returns t c =
    record_put c.loop-expr.invariant c.in-None.ensures.steps.0 (rw c.len.ensures.0 at c.in_ok-word.ensures.allocates) c.payload.ensures refl refl c.set_pairs.ensures
