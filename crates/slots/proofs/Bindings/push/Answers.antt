-- `Bindings::push` meets its contract: one law for each return. Assumes nothing.
use Rattle.std.proofs.Common.{refl, arith}
use Rattle.slots.proofs.PairReturns.{push_put, push_full}
use Rattle.slots.proofs.Bindings.push.Goals as goal

pub returns-then-self : goal.returns-then-self
returns-then-self c = λ t. push_put _ _ _ t c.if-self.true refl refl refl

pub returns-else-self : goal.returns-else-self
returns-else-self c = λ t. push_full _ _ _ t (omega arith) refl
