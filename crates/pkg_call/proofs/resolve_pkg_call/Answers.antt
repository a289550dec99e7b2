-- `pkg_call::resolve_pkg_call` meets its contract: names in scope and packages held stay where they are. Assumes nothing.
use mathlib.Core.Path.{refl}
use native.Mathlib.Omega.{arith}
use Rattle.visit.specs.Free.{free-top}
use Rattle.pkg_call.proofs.Gathered.{gather_ready, held-ready, pkg-visits}
use Rattle.pkg_call.proofs.resolve_pkg_call.Goals as goal

pub overflow_add-top : goal.overflow_add-top
overflow_add-top c = omega (arith, free-top c.requires.free)

pub overflow_mul-top : goal.overflow_mul-top
overflow_mul-top c = omega (arith, free-top c.requires.free)

pub overflow_add-end : goal.overflow_add-end
overflow_add-end c = omega (arith, free-top c.requires.free)

pub offset_bounds-scratch-top : goal.offset_bounds-scratch-top
offset_bounds-scratch-top c = omega (arith, free-top c.requires.free)

pub slice_bounds-gather_types-end : goal.slice_bounds-gather_types-end
slice_bounds-gather_types-end c = omega (arith, free-top c.requires.free, c.requires.free.long)

pub gather_types-requires : goal.gather_types-requires
gather_types-requires c =
    gather_ready c.requires refl

pub in_held-step-requires : goal.in_held-step-requires
in_held-step-requires c =
    held-ready c.requires refl _ c.gather_types.auto.provided c.gather_types.ensures

pub returns : goal.returns
returns c =
    pkg-visits c.requires refl c.gather_types.new.provided c.gather_types.auto.provided _ _ _ _ _ _ c.in_held-step.ensures c.in_held-step.auto.scratch c.answered.ensures
