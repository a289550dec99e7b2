-- `slots::bind_one` meets its contract: one law for each return. Assumes nothing.
use Rattle.ptype.specs.TypeKindLaws.{type-number, type-not}
use Rattle.slots.proofs.PairReturns.{one-void, one-new, one_same, one-conflict}
use Rattle.slots.proofs.bind_one.Goals as goal

pub returns-in-Void : goal.returns-in-Void
returns-in-Void c = one-void _ _ _ _ _ (type-number _ c.in-Void.ensures)

pub returns-in_default-bound_to : goal.returns-in_default-bound_to
returns-in_default-bound_to c = one-new _ _ _ _ _ _ (type-not _ c.of.ensures c.in_default.not-Void) c.bound_to.ensures c.in_default-bound_to.is (c.push.ensures c.args.types.now.texts.now)

pub returns-then-same_type : goal.returns-then-same_type
returns-then-same_type c = one_same _ _ _ _ _ _ (type-not _ c.of.ensures c.in_default.not-Void) c.bound_to.ensures c.in-Some.is c.same_type.ensures c.if-same_type.true

pub returns-else-same_type : goal.returns-else-same_type
returns-else-same_type c = one-conflict _ _ _ _ _ _ (type-not _ c.of.ensures c.in_default.not-Void) c.bound_to.ensures c.in-Some.is c.same_type.ensures c.if-same_type.false
