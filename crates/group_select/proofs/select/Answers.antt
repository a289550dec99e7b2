-- `group_select::select` meets its contract: a poisoned argument, a candidate that fits, or none. Assumes nothing.
use Rattle.group_select.proofs.Returns.{select-poisoned, select-taken, select-none}
use Rattle.group_select.proofs.select.Goals as goal

pub returns-then-poisoned : goal.returns-then-poisoned
returns-then-poisoned c = select-poisoned _ _ _ _ _ _ _ _ _ _ _ c.if-poisoned.true c.common_return.ensures

pub returns : goal.returns
returns c = select-taken _ _ _ _ _ _ _ _ _ _ _ c.if-poisoned.false c.position.ensures c.in-Some.is c.return_type-ret.ensures c.set_known.ensures

pub returns-in_default : goal.returns-in_default
returns-in_default c = select-none _ _ _ _ _ _ _ _ _ _ _ c.if-poisoned.false c.position.ensures c.in_default.is c.none_fits.ensures
