-- `image_nodes::functions_fit` meets its contract: it divides the room where the definition multiplies the count (`Tests`). Assumes nothing.
use native.Mathlib.Omega.{arith}
use Rattle.image_nodes.proofs.Tests.{functions-by, functions-none}
use Rattle.image_nodes.proofs.functions_fit.Goals as goal

pub returns-then-count-gt0 : goal.returns-then-count-gt0
returns-then-count-gt0 c = functions-by _ _ c.if-count-gt0.true

pub returns-else-count-gt0 : goal.returns-else-count-gt0
returns-else-count-gt0 c = functions-none _ _ (omega arith) c.if-count-gt0.false
