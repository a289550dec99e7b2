use mathlib.Core.Path.{refl}
use native.Mathlib.Omega.{arith}
use Rattle.extern_package.proofs.FunctionReturns.{packing_begin, packing_over, packing_stops, packing_more, size_low, to_low, function-room}
use Rattle.extern_package.proofs.extern_functions.Goals as goal

pub loop-init : goal.loop-init
loop-init c = (c.requires, packing_begin c.args.n c.args.from c.args.at c.args.count _ c.args.used c.requires)

pub extern_function-requires : goal.extern_function-requires
extern_function-requires c = function-room c.loop.invariant.0 c.loop.invariant.1 (omega arith)

pub returns-in_err-after : goal.returns-in_err-after
returns-in_err-after c = packing_stops c.loop.invariant.0 c.loop.invariant.1 (omega arith) c.extern_function.ensures c.in_err-after.was c.from_residual.ensures.1

pub overflow_add-place : goal.overflow_add-place
overflow_add-place c = omega (arith, size_low c.loop.invariant.0 c.loop.invariant.1 (omega arith), c.word_after.ensures)

pub overflow_add-to : goal.overflow_add-to
overflow_add-to c = omega (arith, to_low c.loop.invariant.0 c.loop.invariant.1 (omega arith), c.word_after.ensures)

pub loop-preserved : goal.loop-preserved
loop-preserved c = (c.loop.invariant.0, packing_more c.loop.invariant.0 c.loop.invariant.1 (omega arith) c.extern_function.ensures c.in_ok-after.was c.word_after.ensures refl)

pub returns : goal.returns
returns c = packing_over c.loop.invariant.0 c.loop.invariant.1 (omega arith)
