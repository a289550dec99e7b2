use Rattle.std.proofs.Common.{◌∙◌, arith}
use Rattle.library_slots.proofs.NameWays.{types-found, types-past, types-none}
use Rattle.library_slots.proofs.Arguments.among_types.Goals as goal

pub returns-then-is_slot : goal.returns-then-is_slot
returns-then-is_slot c =
    let next = c.in-Some.ensures.steps in
    types-found _ _ _ _ c.loop-pair.invariant.1 _ _ next.1.0 (next.1.1 ∙ c.loop-pair.invariant.0) c.is_slot.ensures c.if-is_slot.true

pub loop-pair-preserved : goal.loop-pair-preserved
loop-pair-preserved c =
    let next = c.in-Some.ensures.steps in
    let two = c.loop-pair.invariant.0 in
    (next.0 ∙ two, types-past _ _ _ _ c.loop-pair.invariant.1 _ _ next.1.0 (next.1.1 ∙ two) c.is_slot.ensures c.if-is_slot.false)

pub returns : goal.returns
returns c =
    let over = c.in-None.ensures.steps in
    types-none _ _ _ _ c.loop-pair.invariant.1 (omega (arith, over.1.0, c.loop-pair.invariant.0))
