use mathlib.Core.Path.{refl}
use native.Mathlib.Omega.{arith}
use Rattle.spans.specs.Ready.{case-room}
use native.Mathlib.Nat.{sub-zero}
use Rattle.spans.proofs.Loops.{some-left, none-left, one-less}
use Rattle.spans.proofs.Loops.{end-all, end-less, end-done}
use Rattle.spans.proofs.cases_end.Goals as goal

pub loop-init : goal.loop-init
loop-init c = rw sub-zero (end-all c.requires)

pub overflow_add-i : goal.overflow_add-i
overflow_add-i c = omega (arith, case-room (some-left c.loop-test.true) c.loop.invariant.ready refl)

pub overflow_add-i-in-loop : goal.overflow_add-i-in-loop
overflow_add-i-in-loop c = omega (arith, case-room (some-left c.loop-test.true) c.loop.invariant.ready c.word_after.ensures)

pub loop-preserved : goal.loop-preserved
loop-preserved c = rw one-less (end-less c.loop.invariant (some-left c.loop-test.true) c.word_after.ensures)

pub returns : goal.returns
returns c = end-done c.loop.invariant (none-left c.loop-test.false)
