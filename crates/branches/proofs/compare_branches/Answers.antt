use Rattle.std.proofs.Math.Path.{refl}
use Rattle.std.proofs.Common.{◌∙◌, arith}
use Rattle.branches.proofs.Compare.{none-compared, place-low, all-compared, body-ready, body-room, more-compared, compared-stops}
use Rattle.branches.proofs.compare_branches.Goals as goal

pub overflow_add-place : goal.overflow_add-place
overflow_add-place c = omega (arith, place-low c.requires)

pub loop-init : goal.loop-init
loop-init c = (none-compared _ _ _ _ _ _ _ _ _ _ _ _ (rw (← c.word-count.ensures) at c.requires), refl, refl)

pub overflow_add-body : goal.overflow_add-body
overflow_add-body c = omega (arith, body-room _ _ _ _ _ _ _ _ _ _ _ _ c.loop.invariant.0 (omega arith) c.word_after-nodes.ensures)

pub body_answer-answer-requires : goal.body_answer-answer-requires
body_answer-answer-requires c = body-ready _ _ _ _ _ _ _ _ _ _ _ _ c.loop.invariant.0 (omega arith) c.word_after-nodes.ensures

pub returns-in_err-after : goal.returns-in_err-after
returns-in_err-after c =
    rw c.word-count.ensures at
    (compared-stops _ _ _ _ _ _ _ _ _ _ _ _ c.loop.invariant.0 (omega arith) c.word_after-nodes.ensures c.word_at.ensures c.body_answer-answer.ensures
    c.compare_branch.ensures c.in_err-after.was c.from_residual.ensures.1)

pub overflow_add-place-in-loop : goal.overflow_add-place-in-loop
overflow_add-place-in-loop c = omega (arith, body-room _ _ _ _ _ _ _ _ _ _ _ _ c.loop.invariant.0 (omega arith) c.word_after-nodes.ensures)

pub loop-preserved : goal.loop-preserved
loop-preserved c =
    let one = c.compare_branch in (
      more-compared _ _ _ _ _ _ _ _ _ _ _ _ c.loop.invariant.0 (omega arith) c.word_after-nodes.ensures c.word_at.ensures c.body_answer-answer.ensures one.ensures c.in_ok-after.was,
      one.auto.diagnostics ∙ c.loop.invariant.1,
      one.auto.messages ∙ c.loop.invariant.2,
    )

pub returns : goal.returns
returns c = rw c.word-count.ensures at (all-compared _ _ _ _ _ _ _ _ _ _ _ _ c.loop.invariant.0 (omega arith))
