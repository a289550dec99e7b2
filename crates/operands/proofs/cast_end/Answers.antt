-- `operands::cast_end` meets its contract: one law for each return. Assumes nothing.
use Rattle.operands.proofs.Returns.{cast-poisoned, cast-done}
use Rattle.operands.proofs.cast_end.Goals as goal

-- src/lib.rt:231:9
pub returns-in_default : goal.returns-in_default
returns-in_default c = λ ls v words f e o. cast-poisoned _ _ _ _ _ _ _ c.in_default.is ls v words _ f _ _ _ e o

-- src/lib.rt:212:1
pub returns : goal.returns
returns c = cast-done _ _ _ _ _ _ _ c.in-Known.is c.word-slot.ensures c.word-token.ensures c.cast.ensures c.answered.ensures
