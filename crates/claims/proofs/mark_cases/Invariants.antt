-- `claims::mark_cases` meets its contract. The loop's invariant: where the next case stands, for the sums of places; and `CasesToMark`: what is
-- left to mark gives the whole. Assumes nothing.
use Prim.Native.Nat.{◌-◌}
use Rattle.node_parts.specs.Lists.{CasePlace}
use Rattle.claims.proofs.MarkWays.{CasesToMark}
use Rattle.claims.proofs.mark_cases.Given as goal

abbrev pub invariant-loop : goal.invariant-loop
invariant-loop l =
    CasePlace l.words l.cases.count l.at (l.cases.count - l.counter)
    × CasesToMark l.words l.cases.end l.cases.from l.cases.count l.initial.marks l.marks l.at (l.cases.count - l.counter)
