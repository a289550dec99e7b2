-- `library_slots::named_slots` meets its contract. Assumes nothing.
use native.Mathlib.Omega.{arith}
use mathlib.Core.Path.{◌≡◌}
use Rattle.library_slots.proofs.NamedWays.{slots-named}
use Rattle.library_slots.proofs.named_slots.Goals as goal

pub returns-then-group_names : goal.returns-then-group_names
returns-then-group_names c =
    λ l.
    let listed = c.slot_places.ensures l in
    let e : c.slot_places.result ≡ c.min-n.result = omega (arith, listed.few, c.slot_places.auto.order, c.min-n.ensures) in
    slots-named _ (rw e at listed) (omega (arith, c.min-n.ensures)) c.group_names.ensures c.if-group_names.true
