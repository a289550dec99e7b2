-- `values::alias` meets its contract by that of `set_known`. Assumes nothing.
use Rattle.rules.specs.Steps.{ty}
use Rattle.values.specs.Answers.{alias}
use Rattle.values.proofs.Told.{same-steps}
use Rattle.values.proofs.alias.Goals as goal

pub returns : goal.returns
unfolding alias ty
returns c t d m = same-steps (c.set_known.ensures t d m) (λ rest. rw c.word_at-w.ensures)
