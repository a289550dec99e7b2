-- `name_order::NamedWords::take_heap` meets its contract. The loop's invariant: no place is lost so far. Assumes nothing.
use lib.ListN.{length}
use Rattle.name_order.specs.Order.{Rearranged}
use Rattle.name_order.proofs.NamedWords.take_heap.Given as goal

abbrev pub invariant-loop-left : goal.invariant-loop-left
invariant-loop-left l = Rearranged l.initial.order l.order (length l.initial.order)
