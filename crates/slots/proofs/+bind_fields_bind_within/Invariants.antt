-- `slots::bind_within` and `slots::bind_fields` meet their contracts: one law for each return. The depth falls. The loop's
-- invariant: what binds the fields that are left binds them all. Assumes nothing.
use Prim.Native.Nat.{◌+◌, ◌-◌, ◌*◌}
use Rattle.ptype.specs.Types.{type_within}
use Rattle.slots.proofs.BindReturns.{Left}
use Rattle.slots.proofs.+bind_fields_bind_within.Given as goal

abbrev pub decreases-bind_fields : goal.decreases-bind_fields
decreases-bind_fields l = l.depth * 2 + 1

abbrev pub decreases-bind_within : goal.decreases-bind_within
decreases-bind_within l = l.depth * 2

abbrev pub invariant-bind_fields-loop-k : goal.invariant-bind_fields-loop-k
invariant-bind_fields-loop-k l =
    let T = l.types.texts.now in
    let W = l.types.words.now in
    Left T W (type_within l.types l.depth) l.i l.m l.j l.n l.initial.bindings (l.i + 2 * l.k) (l.m - l.k) (l.j + 2 * l.k) (l.n - l.k) l.bindings
