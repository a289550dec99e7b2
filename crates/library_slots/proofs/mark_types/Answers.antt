use Rattle.std.proofs.Common.{◌∙◌, arith}
use Rattle.library_slots.proofs.MarkWays.{types_more, types-done}
use Rattle.library_slots.proofs.mark_types.Goals as goal

pub loop-pair-preserved : goal.loop-pair-preserved
loop-pair-preserved c =
    let next = c.in-Some.ensures.steps in
    let two = c.loop-pair.invariant.0 in
    (next.0 ∙ two, types_more c.loop-pair.invariant.1 _ _ next.1.0 (next.1.1 ∙ two) c.mark_inside.ensures)

pub returns : goal.returns
returns c =
    let over = c.in-None.ensures.steps in
    types-done c.loop-pair.invariant.1 (omega (arith, over.1.0, c.loop-pair.invariant.0))
