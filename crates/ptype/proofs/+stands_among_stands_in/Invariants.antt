-- `stands_in` and `stands_among` meet their contracts: each return is a law of `StandsReturns` or of marks, over what the calls gave.
-- The depth falls; the loop's invariant is that the fields left decide. Assumes nothing.
use mathlib.Core.Path.{◌≡◌}
use lib.ListN.{length}
use Rattle.ptype.specs.Stands.{found_from, found_among, found_within}
use Rattle.ptype.specs.Marks.{Free}
use Prim.Native.Nat.{◌+◌, ◌-◌, ◌*◌}
use Rattle.ptype.proofs.+stands_among_stands_in.Given as goal

abbrev pub decreases-stands_among : goal.decreases-stands_among
decreases-stands_among g l = 2 * l.depth + 1

abbrev pub decreases-stands_in : goal.decreases-stands_in
decreases-stands_in g l = 2 * l.depth

abbrev pub invariant-stands_among-loop-i : goal.invariant-stands_among-loop-i
invariant-stands_among-loop-i g l =
    let leaf = g.S.Sought.Is l.sought in
    let F = found_within leaf l.types l.depth in
    (found_among F l.types l.w ≡ found_from F l.types (l.at + 1 + 2 * l.i) (l.i-end - l.i)) × Free leaf l.types l.free × (length l.free ≡ length l.initial.free)
