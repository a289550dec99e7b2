-- `name_order::NamedWords::sift` meets its contract. The loop's invariant: no place is lost so far. The measure is what is left below the entry.
-- Assumes nothing.
use Prim.Native.Nat.{◌-◌}
use lib.ListN.{length}
use Rattle.name_order.specs.Order.{Rearranged}
use Rattle.name_order.proofs.NamedWords.sift.Given as goal

abbrev pub invariant-loop-at : goal.invariant-loop-at
invariant-loop-at l = Rearranged l.initial.order l.order (length l.initial.order)

abbrev pub decreases-loop-at : goal.decreases-loop-at
decreases-loop-at l = length l.initial.order - l.at
