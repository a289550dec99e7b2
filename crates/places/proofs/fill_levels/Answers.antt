use Rattle.places.proofs.Levelling.{levelling_none, levelling_more, levelling_all}
use Rattle.places.proofs.fill_levels.Goals as goal

pub loop-t-init : goal.loop-t-init
loop-t-init c = levelling_none

pub loop-t-preserved : goal.loop-t-preserved
loop-t-preserved c =
    levelling_more c.loop-t.invariant c.loop-t-test.true c.levels_at-most.ensures c.set_item.ensures

pub shape_of-places : goal.shape_of-places
shape_of-places c = c.loop-t.invariant.long

pub returns : goal.returns
returns c = levelling_all c.loop-t.invariant c.loop-t-test.false
