-- `same_type_within` and `same_fields` meet their contracts: each return is a law of `SameReturns`, over what the calls gave.
-- The depth falls; the loop's invariant is that the fields left decide. Assumes nothing.
use mathlib.Core.Path.{◌≡◌}
use Rattle.ptype.specs.Ty.{same_fields}
use Rattle.ptype.specs.Words.{fields_from, fields_of, unfolded}
use Prim.Native.Nat.{◌+◌, ◌-◌, ◌*◌}
use Rattle.ptype.proofs.+same_fields_same_type_within.Given as goal

abbrev pub decreases-same_fields : goal.decreases-same_fields
decreases-same_fields l = 2 * l.depth + 1

abbrev pub decreases-same_type_within : goal.decreases-same_type_within
decreases-same_type_within l = 2 * l.depth

abbrev pub invariant-same_fields-loop-k : goal.invariant-same_fields-loop-k
invariant-same_fields-loop-k l = let T = l.types.words.now in
    let x = l.types.texts.now in
    let U = unfolded x T l.depth in
    same_fields (fields_of U x T l.a) (fields_of U x T l.b)
    ≡ same_fields (fields_from U x T (l.at + 2 * l.k) (l.n - l.k)) (fields_from U x T (l.to + 2 * l.k) (l.n - l.k))
