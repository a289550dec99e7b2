-- `depth::depth` meets its contract: the depths are that many zeros. Assumes nothing.
use Rattle.image_laws.specs.OutlineAt.{outlines_in}
use Rattle.depth.specs.Depths.{depth_of, depth_in}
use Rattle.depth.proofs.depth.Goals as goal

pub returns : goal.returns
unfolding depth_in depth_of outlines_in
returns c = c.depth_by.ensures
