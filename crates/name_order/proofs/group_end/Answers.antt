-- `name_order::group_end` meets its contract: the entries after the first, looked through. Assumes nothing.
use Rattle.name_order.proofs.EndWays.{end-found, end_none}
use Rattle.name_order.proofs.group_end.Goals as goal

pub returns-then-next-end : goal.returns-then-next-end
returns-then-next-end c =
    end-found _ _ _ c.min-end.ensures c.min-from.ensures c.before_new.ensures.within c.before_new.ensures.inner c.if-next-end.true c.before_new.ensures.next

pub returns-else-next-end : goal.returns-else-next-end
returns-else-next-end c =
    end_none _ _ _ c.min-end.ensures c.min-from.ensures c.before_new.ensures.within c.before_new.ensures.inner c.requires c.if-next-end.false
