-- `image_nodes::function_fits` meets its contract: it divides the room where the definition multiplies the count (`Tests`). Assumes nothing.
use Rattle.image_nodes.proofs.Tests.{function-over, function-last, function-within}
use Rattle.image_nodes.proofs.function_fits.Goals as goal

pub returns-then-n-room : goal.returns-then-n-room
returns-then-n-room c = function-over _ _ _ c.if-n-room.true

pub returns-then-others-eq0 : goal.returns-then-others-eq0
returns-then-others-eq0 c = function-last _ _ _ c.if-n-room.false c.if-others-eq0.true

pub returns-else-others-eq0 : goal.returns-else-others-eq0
returns-else-others-eq0 c = function-within _ _ _ c.if-n-room.false c.if-others-eq0.false
