-- `extern_package::extern_package` meets its contract: one law for each return. Assumes nothing.
use mathlib.Core.Path.{refl}
use native.Mathlib.Omega.{arith}
use Rattle.extern_package.proofs.PackageReturns.{in_order, room-below, functions-room, package_refused, package_done}
use Rattle.extern_package.proofs.extern_package.Goals as goal

pub overflow_sub-size : goal.overflow_sub-size
overflow_sub-size c = in_order c.requires

pub overflow_sub-start : goal.overflow_sub-start
overflow_sub-start c = omega (arith, room-below c.requires)

pub extern_functions-requires : goal.extern_functions-requires
extern_functions-requires c = functions-room c.requires c.args.name refl refl refl c.set_pair.ensures c.store.ensures

pub returns-in_err-used : goal.returns-in_err-used
returns-in_err-used c =
    let written = c.extern_functions in
    package_refused c.requires c.args.name refl refl refl c.set_pair.ensures c.store.ensures c.args.n c.args.slot written.result written.ensures c.in_err-used.was c.from_residual.ensures.1

pub returns : goal.returns
returns c =
    let written = c.extern_functions in
    package_done c.requires c.args.name refl refl refl c.set_pair.ensures c.store.ensures c.args.n c.args.slot written.result written.ensures c.in_ok-used.was c.store-2.ensures
