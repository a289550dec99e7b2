-- `node_parts::after` meets its contract. Assumes nothing.
use Rattle.node_parts.proofs.Ways.{past_after}
use Rattle.node_parts.proofs.after.Goals as goal

pub returns-then-at-words : goal.returns-then-at-words
returns-then-at-words c = past_after c.args.words.now _ c.if-at-words.true
