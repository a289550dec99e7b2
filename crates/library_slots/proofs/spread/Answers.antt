use Rattle.std.proofs.Common.{◌-◌, ◌∙◌}
use Rattle.library_slots.proofs.MarkWays.{length_from, spread-less, spread-done}
use Rattle.library_slots.proofs.spread.Goals as goal

pub loop-i-preserved : goal.loop-i-preserved
loop-i-preserved c = (length_from c.args.pool.now c.loop-i.marks _ (c.loop-i.i - 1) c.spread_from.ensures ∙ c.loop-i.invariant.0, spread-less _ _ _ _ _ _ c.loop-i.invariant.1 c.loop-i-test.true c.spread_from.ensures)

pub returns : goal.returns
returns c = spread-done _ _ _ _ _ c.loop-i.invariant.1 c.loop-i-test.false
