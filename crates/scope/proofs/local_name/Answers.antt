-- `scope::local_name` meets its contract. Assumes nothing.
use Rattle.scope.proofs.EnvWays.{marked-above, name-marked, name-plain}
use Rattle.scope.proofs.local_name.Goals as goal

pub overflow_sub-result : goal.overflow_sub-result
overflow_sub-result c = marked-above c.args.w c.is_poisoned.ensures c.if-is_poisoned.true

pub returns-then-is_poisoned : goal.returns-then-is_poisoned
returns-then-is_poisoned c = name-marked c.args.w c.is_poisoned.ensures c.if-is_poisoned.true

pub returns : goal.returns
returns c = name-plain c.args.w c.is_poisoned.ensures c.if-is_poisoned.false
