-- `members::empty` meets its contract. Assumes nothing.
use Rattle.members.proofs.Returns.{empty-told}
use Rattle.members.proofs.empty.Goals as goal

-- src/lib.rt:36:1
pub returns : goal.returns
returns c = empty-told c.args.node.now.n c.args.st c.word.ensures c.empty_array-step.ensures c.answered.ensures
