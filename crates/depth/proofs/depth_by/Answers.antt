use native.Mathlib.Omega.{arith}
use Rattle.depth.proofs.NodeWays.{nodes-to-measure, node-stop, node-more, nodes-end, whole}
use Rattle.depth.proofs.depth_by.Goals as goal

pub loop-i-init : goal.loop-i-init
loop-i-init c = nodes-to-measure _ _ _ _ c.root_count.ensures

pub shape_of-depths-then-d-ge-MOST : goal.shape_of-depths-then-d-ge-MOST
shape_of-depths-then-d-ge-MOST c = c.loop-i.invariant.long

pub returns-then-d-ge-MOST : goal.returns-then-d-ge-MOST
returns-then-d-ge-MOST c = whole _ _ c.node_count-n.ensures (node-stop c.loop-i.invariant c.loop-i-test.true c.deepest_part-d.ensures c.if-d-ge-MOST.true)

pub loop-i-preserved : goal.loop-i-preserved
loop-i-preserved c = node-more c.loop-i.invariant c.loop-i-test.true c.deepest_part-d.ensures (omega (arith, c.if-d-ge-MOST.false)) c.set_item.ensures c.after-at.ensures

pub shape_of-depths : goal.shape_of-depths
shape_of-depths c = c.loop-i.invariant.long

pub returns : goal.returns
returns c = whole _ _ c.node_count-n.ensures (nodes-end c.loop-i.invariant c.loop-i-test.false)
