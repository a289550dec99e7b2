-- `branches::condition` meets its contract. Assumes nothing.
use Rattle.visit.specs.Plain.{steps-visits}
use Rattle.branches.proofs.condition.Goals as goal

pub returns : goal.returns
returns c ls v words f e o = rw (c.answered.ensures, ← c.word_at-token.ensures) (steps-visits (c.condition-step.ensures ls v) words f e o)
