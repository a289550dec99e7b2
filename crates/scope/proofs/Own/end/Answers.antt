use Rattle.std.proofs.Common.{◌≡◌, ◌+◌, ◌-◌, refl, arith}
use Rattle.scope.proofs.OwnWays.{left-begin, left-room, left-more, left_over}
use Rattle.scope.proofs.Own.end.Goals as goal

pub loop-init : goal.loop-init
loop-init c = let e : c.self.inside.count - 0 ≡ c.self.inside.count = omega arith in rw e (left-begin c.self.invariant)

pub overflow_add-at : goal.overflow_add-at
overflow_add-at c = omega (arith, left-room c.loop.invariant (omega arith) refl)

pub overflow_add-at-in-loop-2 : goal.overflow_add-at-in-loop-2
overflow_add-at-in-loop-2 c = omega (arith, left-room c.loop.invariant (omega arith) c.word_at.ensures)

pub loop-preserved : goal.loop-preserved
loop-preserved c =
    let e : c.self.inside.count - (c.loop.counter + 1) ≡ c.self.inside.count - c.loop.counter - 1 = omega arith in
    rw e (left-more c.loop.invariant (omega arith) c.word_at.ensures)

pub returns : goal.returns
returns c = rw (← c.self.view_is) (left_over c.loop.invariant (omega arith))
