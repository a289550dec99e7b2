-- `depth::deepest_cases` meets its contract. The loop's invariant: where the next case stands, for the sums of places; and `CasesToMeasure`: the
-- depth so far and those that are left give the whole. Assumes nothing.
use Prim.Native.Nat.{◌-◌}
use Rattle.node_parts.specs.Lists.{CasePlace}
use Rattle.depth.proofs.PartWays.{CasesToMeasure}
use Rattle.depth.proofs.deepest_cases.Given as goal

abbrev pub invariant-loop : goal.invariant-loop
invariant-loop l =
    CasePlace l.words l.cases.count l.at (l.cases.count - l.counter)
    × CasesToMeasure l.words l.depths l.cases.end l.cases.from l.cases.count l.at (l.cases.count - l.counter) l.d
