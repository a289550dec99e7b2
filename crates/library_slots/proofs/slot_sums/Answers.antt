use Rattle.std.proofs.Common.{refl, arith}
use Rattle.library_slots.proofs.SumWays.{summed_none, summed_small, summed_more, summed_all}
use Rattle.library_slots.proofs.slot_sums.Goals as goal

pub loop-i-init : goal.loop-i-init
loop-i-init c = summed_none _ c.min-i-end.ensures

pub overflow_add-sums : goal.overflow_add-sums
overflow_add-sums c = omega (arith, summed_small c.loop-i.invariant c.has_slot.result c.from-more.ensures)

pub loop-i-preserved : goal.loop-i-preserved
loop-i-preserved c =
    summed_more c.loop-i.invariant c.loop-i-test.true refl c.has_slot.ensures c.from-more.ensures

pub returns : goal.returns
returns c = summed_all c.loop-i.invariant _ c.min-i-end.ensures c.loop-i-test.false
