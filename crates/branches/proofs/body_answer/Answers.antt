-- `branches::body_answer` meets its contract. Assumes nothing.
use Rattle.branches.proofs.Compare.{last-ready}
use Rattle.branches.proofs.body_answer.Goals as goal

pub node_answer-requires : goal.node_answer-requires
node_answer-requires c = last-ready c.requires c.if-count-eq0.false c.word_after.ensures
