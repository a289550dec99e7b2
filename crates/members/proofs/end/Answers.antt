-- `members::end` meets its contract. Assumes nothing.
use Rattle.members.proofs.Returns.{all-visited}
use Rattle.members.proofs.end.Goals as goal

-- src/lib.rt:136:1
pub returns : goal.returns
returns c = all-visited c.args.node.now.n c.args.first c.args.poisoned c.args.st c.word.ensures c.array_of-step.ensures c.answered.ensures
