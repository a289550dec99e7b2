-- `operands::bin_end` meets its contract: one law for each return. Assumes nothing.
use Rattle.operands.proofs.Returns.{bin-left, bin-right, bin_fused}
use Rattle.operands.proofs.bin_end.Goals as goal

-- src/lib.rt:64:9
pub returns-in_default : goal.returns-in_default
returns-in_default c = λ ls v words f e o. bin-left _ _ _ _ _ _ _ c.in_default.is ls v words _ f _ _ _ e o

-- src/lib.rt:67:9
pub returns-in_default-right : goal.returns-in_default-right
returns-in_default-right c = λ ls v words f e o. bin-right _ _ _ _ _ _ _ c.in-Known.is c.in_default-right.is ls v words _ f _ _ _ e o

-- src/lib.rt:45:1
pub returns : goal.returns
returns c =
    bin_fused _ _ _ _ _ _ _ c.in-Known.is c.in-Known-right.is c.word-slot.ensures
    c.word-token.ensures c.word-op.ensures c.fuse.ensures c.answered.ensures
