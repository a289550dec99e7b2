use mathlib.Core.Path.{refl, ◌∙◌}
use native.Mathlib.Omega.{arith}
use Rattle.call_args.proofs.Plain.{none_done, all_done, more-done, done-stops}
use Rattle.call_args.proofs.plain_arguments.Goals as goal

pub loop-i-init : goal.loop-i-init
loop-i-init c = (none_done _ _ _ _ _ _ _ _ _ _ _ _, refl, refl)

pub returns-in_err-after : goal.returns-in_err-after
returns-in_err-after c =
    done-stops _ _ _ _ _ _ _ _ _ _ _ _ c.loop-i.invariant.0
    c.requires.counts (omega arith) c.argument_of-arg.ensures c.plain_argument.ensures c.in_err-after.was c.from_residual.ensures.1

pub loop-i-preserved : goal.loop-i-preserved
loop-i-preserved c =
    let one = c.plain_argument in (
      more-done _ _ _ _ _ _ _ _ _ _ _ _ c.loop-i.invariant.0 c.requires.counts (omega arith) c.argument_of-arg.ensures one.ensures c.in_ok-after.was,
      one.auto.diagnostics ∙ c.loop-i.invariant.1,
      one.auto.messages ∙ c.loop-i.invariant.2,
    )

pub returns : goal.returns
returns c = all_done _ _ _ _ _ _ _ _ _ _ _ _ c.loop-i.invariant.0 (omega arith)
