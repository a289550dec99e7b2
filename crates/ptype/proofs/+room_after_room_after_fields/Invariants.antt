-- `room_after` and `room_after_fields` meet their contracts: each return is a law of `SizeReturns`, over what the calls gave.
-- The levels fall; the loop's invariant is what the fields left leave. Assumes nothing.
use mathlib.Core.Path.{◌≡◌}
use Rattle.tok.specs.Text.{Texts}
use Rattle.ptype.specs.Words.{fields_from, fields_of, unfolded}
use Rattle.ptype.specs.Size.{size_of_all}
use Prim.Native.Nat.{◌+◌, ◌-◌, ◌*◌}
use Rattle.ptype.proofs.+room_after_room_after_fields.Given as goal

abbrev pub decreases-room_after : goal.decreases-room_after
decreases-room_after l = 2 * l.levels

abbrev pub decreases-room_after_fields : goal.decreases-room_after_fields
decreases-room_after_fields l = 2 * l.levels + 1

abbrev pub invariant-room_after_fields-loop-k : goal.invariant-room_after_fields-loop-k
invariant-room_after_fields-loop-k l = (t : Texts) → l.room - size_of_all (fields_of (unfolded t l.types l.levels) t l.types l.w) ≡ l.here - size_of_all (fields_from (unfolded t l.types l.levels) t l.types (l.at + 1 + 2 * l.k) (l.k-end - l.k))
