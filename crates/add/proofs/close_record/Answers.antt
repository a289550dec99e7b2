-- `add::close_record` meets its contract: one law for each return. Assumes nothing.
use Rattle.add.proofs.Returns.{close_put, close_deep}
use Rattle.add.proofs.close_record.Goals as goal

pub returns-then-is_shallow : goal.returns-then-is_shallow
returns-then-is_shallow c = λ t n. rw (c.in_ok-word.was) (close_put _ _ _ c.is_shallow.ensures t n c.if-is_shallow.true)

pub returns-else-is_shallow : goal.returns-else-is_shallow
returns-else-is_shallow c = λ t n. rw (c.in_ok-word.was) (close_deep _ _ _ c.is_shallow.ensures t n c.if-is_shallow.false)
