-- `scope::is_poisoned` meets its contract. Assumes nothing.
use Rattle.scope.proofs.is_poisoned.Goals as goal

pub returns : goal.returns
returns c = rw c.kind.ensures
