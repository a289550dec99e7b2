-- `depth_within` and `deepest_of` meet their contracts: each return is a law of `GaugeReturns`, over what the calls gave.
-- The levels fall; the loop's invariant: what is left to do of the whole, from the deepest so far and its marks. Assumes nothing.
use mathlib.Core.Path.{◌≡◌}
use lib.ListN.{length}
use Rattle.tok.specs.Word.{payload_of}
use Rattle.ptype.specs.Words.{field_count}
use Rattle.ptype.specs.Gauge.{gauge_fields, gauge}
use Prim.Native.Nat.{◌+◌, ◌-◌, ◌*◌}
use Rattle.ptype.proofs.+deepest_of_depth_within.Given as goal

abbrev pub decreases-deepest_of : goal.decreases-deepest_of
decreases-deepest_of l = 2 * l.levels + 1

abbrev pub decreases-depth_within : goal.decreases-depth_within
decreases-depth_within l = 2 * l.levels

abbrev pub invariant-deepest_of-loop-k : goal.invariant-deepest_of-loop-k
invariant-deepest_of-loop-k l = (gauge_fields (gauge l.types l.levels) l.types (payload_of l.w + 1) (field_count l.types l.w) 0 l.initial.known ≡ gauge_fields (gauge l.types l.levels) l.types (l.at + 1 + 2 * l.k) (l.k-end - l.k) l.most l.known)
    × (length l.known ≡ length l.initial.known)
