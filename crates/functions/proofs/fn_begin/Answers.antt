-- `functions::fn_begin` meets its contract: one law for each return. Assumes nothing.
use native.Mathlib.Omega.{arith}
use Rattle.visit.specs.Free.{free-top}
use Rattle.functions.proofs.Returns.{begin-stops, begin-refused, entry-room, few-functions, begin-done}
use Rattle.functions.proofs.fn_begin.Goals as goal

pub returns-in_err-inner : goal.returns-in_err-inner
returns-in_err-inner c =
    begin-stops c.args.n c.args.slot c.args.name c.args.ret c.args.at c.args.count c.requires c.fn_arguments.result c.fn_arguments.ensures c.in_err-inner.was c.from_residual.ensures.1

pub returns-in_err-w : goal.returns-in_err-w
returns-in_err-w c =
    begin-refused c.args.n c.args.slot c.args.name c.args.ret c.args.at c.args.count c.requires c.fn_arguments.result c.fn_arguments.ensures c.in_ok-inner.was
    c.type_from_type_expr-added.result c.type_from_type_expr-added.ensures c.added.ensures c.in_err-w.was c.from_residual-in_err-w.ensures.1

pub overflow_add-from : goal.overflow_add-from
overflow_add-from c = omega (arith, free-top c.requires.arguments.free)

pub overflow_mul-from : goal.overflow_mul-from
overflow_mul-from c = omega (arith, free-top c.requires.arguments.free)

pub enter-requires : goal.enter-requires
enter-requires c = entry-room c.args.n c.args.slot c.args.name c.args.ret c.args.at c.args.count c.requires c.fn_arguments.result c.fn_arguments.ensures c.in_ok-inner.was

pub overflow_add-entered : goal.overflow_add-entered
overflow_add-entered c =
    omega (arith, few-functions c.args.n c.args.slot c.args.name c.args.ret c.args.at c.args.count c.requires c.fn_arguments.result c.fn_arguments.ensures c.in_ok-inner.was c.well_formed.1.0.1)

pub returns : goal.returns
returns c =
    begin-done c.args.n c.args.slot c.args.name c.args.ret c.args.at c.args.count c.requires c.fn_arguments.result c.fn_arguments.ensures c.in_ok-inner.was
    c.type_from_type_expr-added.result c.type_from_type_expr-added.ensures c.added.ensures c.in_ok-w.was c.enter.ensures
