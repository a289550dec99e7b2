-- `library_slots::names_stand` meets its contract. The loop's invariant, `StandsTo`: each name wanted before rank `at` is had.
-- The measure is how many ranks are left. Assumes nothing.
use Rattle.std.specs.Prelude.{◌-◌}
use Rattle.library_slots.specs.Named.{argued, wanted}
use Rattle.library_slots.proofs.NamedWays.{StandsTo}
use Rattle.library_slots.proofs.names_stand.Given as goal

abbrev pub invariant-loop-at : goal.invariant-loop-at
invariant-loop-at l = StandsTo l.order l.n (argued l.args.size l.args.marks.now l.args.first l.args.end) (wanted l.ret.size l.ret.marks.now l.ret.end) l.at

abbrev pub decreases-loop-at : goal.decreases-loop-at
decreases-loop-at l = l.n - l.at
