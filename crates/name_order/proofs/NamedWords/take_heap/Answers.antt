use native.Mathlib.Omega.{arith}
use Rattle.name_order.proofs.SwapWays.{all_rearranged, front_rearranged}
use Rattle.name_order.proofs.NamedWords.take_heap.Goals as goal

pub loop-left-preserved : goal.loop-left-preserved
loop-left-preserved c =
    all_rearranged c.loop-left.invariant (all_rearranged c.swap.ensures (front_rearranged _ _ _ (omega (arith, c.swap.ensures.long, c.loop-left.invariant.long)) c.sift.ensures))
