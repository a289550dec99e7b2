use Rattle.std.proofs.Common.{arith}
use Rattle.library.proofs.AccessWays.{functions-begin, functions-less, functions-over}
use Rattle.library.proofs.functions_end.Goals as goal

pub loop-init : goal.loop-init
loop-init c = functions-begin (omega arith) (omega arith)

pub loop-preserved : goal.loop-preserved
loop-preserved c = functions-less c.loop.invariant (omega arith) c.end-at.ensures

pub returns : goal.returns
returns c = functions-over c.loop.invariant (omega arith)
