use mathlib.Core.Path.{◌≡◌}
use native.Mathlib.Omega.{arith}
use Rattle.library_groups.proofs.PlaceWays.{placing_begin, placing_more, placing_done}
use Rattle.library_groups.proofs.function_places.Goals as goal

pub loop-k-init : goal.loop-k-init
loop-k-init c = placing_begin

pub shape_of-order-then-at-last : goal.shape_of-order-then-at-last
shape_of-order-then-at-last c = c.loop-k.invariant.long

pub returns-then-at-last : goal.returns-then-at-last
returns-then-at-last c = placing_done c.loop-k.invariant

pub enter-requires : goal.enter-requires
enter-requires c = omega (arith, c.min-last.ensures)

pub loop-k-preserved : goal.loop-k-preserved
loop-k-preserved c =
    placing_more c.loop-k.invariant (omega (arith, c.min-last.ensures)) (omega (arith, c.min-end.ensures)) c.enter.ensures c.end-at.ensures

pub shape_of-order : goal.shape_of-order
shape_of-order c = c.loop-k.invariant.long

pub returns : goal.returns
returns c =
    let e : c.loop-k.k ≡ c.min-end.result = omega arith in
    rw (← e) (placing_done c.loop-k.invariant)
