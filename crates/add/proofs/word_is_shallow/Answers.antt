-- `add::word_is_shallow` meets its contract, by the test. Assumes nothing.
use Rattle.add.proofs.ShallowByLaws.{word-other, word-asked}
use Rattle.add.proofs.word_is_shallow.Goals as goal

pub returns-then-not-is_type : goal.returns-then-not-is_type
returns-then-not-is_type c = rw c.if-not-is_type.true (word-other _ _ _ c.is_type.ensures c.if-not-is_type.true)

pub returns-else-not-is_type : goal.returns-else-not-is_type
returns-else-not-is_type c =
    word-asked _ _ _ c.is_type.ensures c.if-not-is_type.false c.is_shallow_known.ensures.0
