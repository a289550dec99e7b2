use native.Mathlib.Omega.{arith}
use Rattle.parameters.proofs.Returns.{arguing_begin, argument-ready, arguments-over, arguments-stop, arguing_more}
use Rattle.parameters.proofs.fn_arguments.Goals as goal

pub loop-k-init : goal.loop-k-init
loop-k-init c = (c.requires, arguing_begin _ c.args.n c.args.slot c.args.at c.args.st _ _ _)

pub one_argument-requires : goal.one_argument-requires
one_argument-requires c = argument-ready c.loop-k.invariant.0 c.loop-k.invariant.1 (omega arith)

pub returns-in_err-after : goal.returns-in_err-after
returns-in_err-after c = arguments-stop c.loop-k.invariant.0 c.loop-k.invariant.1 c.one_argument.ensures (omega arith) c.in_err-after.was c.from_residual.ensures.1

pub loop-k-preserved : goal.loop-k-preserved
loop-k-preserved c = (c.loop-k.invariant.0, arguing_more c.loop-k.invariant.0 c.loop-k.invariant.1 c.one_argument.ensures c.in_ok-after.was)

pub returns : goal.returns
returns c = arguments-over c.loop-k.invariant.0 c.loop-k.invariant.1 (omega arith) (omega arith)
