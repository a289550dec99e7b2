-- `image::nodes_by` meets its contract: the invariant `Before`: the outlines so far, whether each may be called, and what the other nodes lead to. Assumes nothing.
use mathlib.Core.Path.{◌≡◌}
use lib.ListN.{length}
use Rattle.image_nodes.specs.Site.{counts_of}
use Rattle.image.proofs.NodeRows.{Before}
use Rattle.image.proofs.nodes_by.Given as goal

abbrev pub invariant-loop-i : goal.invariant-loop-i
invariant-loop-i l = (length l.callable ≡ length l.initial.callable) × Before l.initial.to (counts_of l.counts) l.counts.nodes l.callable l.to l.i
