-- `image_nodes::cases` meets its contract: what the cases that are left lead to, all lead to (`Loops`). Assumes nothing.
use Rattle.ast.specs.NodeRecords.{cases}
use Rattle.image_nodes.specs.Site.{site_at, LeftAt}
use Rattle.image_nodes.proofs.cases.Given as goal

abbrev pub invariant-loop-others : goal.invariant-loop-others
invariant-loop-others l = LeftAt l.initial.to (site_at l.site) (λ h. cases h l.count l.left) l.to (λ h. cases h l.others l.room)
