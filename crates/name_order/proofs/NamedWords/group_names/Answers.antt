-- `name_order::NamedWords::group_names` meets its contract: two steps of the sort, and the entries told. Assumes nothing.
use mathlib.Core.Path.{◌∙◌}
use Rattle.name_order.proofs.SplitWays.{grouping_is}
use Rattle.name_order.proofs.NamedWords.group_names.Goals as goal

pub returns : goal.returns
returns c =
    grouping_is c.make_heap.ensures (rw c.make_heap.ensures.long at c.take_heap.ensures)
    (rw (c.take_heap.ensures.long ∙ c.make_heap.ensures.long) at c.split.ensures)
