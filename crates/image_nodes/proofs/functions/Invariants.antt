-- `image_nodes::functions` meets its contract: what the functions that are left lead to, all lead to (`Loops`). Assumes nothing.
use Rattle.ast.specs.NodeRecords.{extern_functions}
use Rattle.image_nodes.specs.Site.{site_at, LeftAt}
use Rattle.image_nodes.proofs.functions.Given as goal

abbrev pub invariant-loop-others : goal.invariant-loop-others
invariant-loop-others l = LeftAt l.initial.to (site_at l.site) (λ h. extern_functions h l.count l.left) l.to (λ h. extern_functions h l.others l.room)
