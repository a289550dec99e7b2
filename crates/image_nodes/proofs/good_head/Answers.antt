-- `image_nodes::good_head` meets its contract: where `search` comes to its limits, the row is named. Assumes nothing.
use mathlib.Core.Path.{sym}
use Rattle.ast.specs.Nodes.{node_kinds}
use Rattle.image_nodes.proofs.Heads.{long_by}
use Rattle.image_nodes.proofs.good_head.Goals as goal

pub returns-in-Bin : goal.returns-in-Bin
unfolding node_kinds
returns-in-Bin c = sym (long_by _ _ _ c.in-Bin.ensures c.payload-long.ensures)
