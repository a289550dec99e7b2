use mathlib.Core.Path.{refl, ◌∙◌}
use native.Mathlib.Omega.{arith}
use Rattle.slotted_call.proofs.Returns.{none_done, all_done, argument-ready, more-done, done-stops}
use Rattle.slotted_call.proofs.slotted_arguments.Goals as goal

pub loop-i-init : goal.loop-i-init
loop-i-init c = (none_done _ _ _ _ _ _ _ _ _ _ _ _ _ c.requires.fresh, refl, refl, refl)

pub slotted_argument-requires : goal.slotted_argument-requires
slotted_argument-requires c =
    let ready = c.requires.ready in
    argument-ready _ _ _ _ _ _ _ _ _ _ _ _ _ c.loop-i.invariant.0 c.requires.counts (omega arith) c.argument_of-arg.ensures ready.params ready.given ready.room

pub returns-in_err-after : goal.returns-in_err-after
returns-in_err-after c =
    done-stops _ _ _ _ _ _ _ _ _ _ _ _ _ c.loop-i.invariant.0 c.requires.counts (omega arith) c.argument_of-arg.ensures
    c.requires.ready.params c.slotted_argument.ensures c.in_err-after.was c.from_residual.ensures.1

pub loop-i-preserved : goal.loop-i-preserved
loop-i-preserved c =
    let one = c.slotted_argument in
    let so_far = c.loop-i.invariant in (
      more-done _ _ _ _ _ _ _ _ _ _ _ _ _ so_far.0 c.requires.counts (omega arith) c.argument_of-arg.ensures
          c.requires.ready.params one.ensures c.in_ok-after.was,
      one.auto.types ∙ so_far.1,
      one.auto.diagnostics ∙ so_far.2,
      one.auto.messages ∙ so_far.3,
    )

pub returns : goal.returns
returns c = all_done _ _ _ _ _ _ _ _ _ _ _ _ _ c.loop-i.invariant.0 (omega arith)
