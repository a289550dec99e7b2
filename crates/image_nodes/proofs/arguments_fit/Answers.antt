-- `image_nodes::arguments_fit` meets its contract: it divides the room where the definition multiplies the count (`Tests`). Assumes nothing.
use mathlib.Core.Path.{◌∙◌}
use borrow.Author.Tests.{lt-leb}
use Rattle.image_nodes.proofs.Tests.{arguments-over, arguments-within}
use Rattle.image_nodes.proofs.arguments_fit.Goals as goal

pub returns-then-n-saturating_sub : goal.returns-then-n-saturating_sub
returns-then-n-saturating_sub c = λ kind before. arguments-within _ _ _ c.saturating_sub.ensures _ c.saturating_sub-then-n-saturating_sub.ensures c.if-n-saturating_sub.true

pub returns-else-n-saturating_sub : goal.returns-else-n-saturating_sub
returns-else-n-saturating_sub c = λ kind before. lt-leb _ _ c.if-n-saturating_sub.false ∙ arguments-over _ _ _ c.saturating_sub.ensures c.if-n-saturating_sub.false
