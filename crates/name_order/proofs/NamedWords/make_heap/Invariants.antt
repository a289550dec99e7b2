-- `name_order::NamedWords::make_heap` meets its contract. The loop's invariant: no place is lost so far. Assumes nothing.
use lib.ListN.{length}
use Rattle.name_order.specs.Order.{Rearranged}
use Rattle.name_order.proofs.NamedWords.make_heap.Given as goal

abbrev pub invariant-loop-i : goal.invariant-loop-i
invariant-loop-i l = Rearranged l.initial.order l.order (length l.initial.order)
