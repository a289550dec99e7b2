-- `node_parts::parts_at` meets its contract. Assumes nothing.
use native.Mathlib.Omega.{arith}
use Rattle.node_parts.proofs.Ways.{no_parts, match_parts, other_parts}
use Rattle.node_parts.proofs.parts_at.Goals as goal

pub returns-then-at-words : goal.returns-then-at-words
returns-then-at-words c = no_parts _ _ c.if-at-words.true c.stretch.ensures

pub returns-in-Match : goal.returns-in-Match
returns-in-Match c = match_parts _ _ c.word_at-head.ensures c.of.ensures c.in-Match.is (omega arith) (omega arith) c.word_at.ensures (omega arith) c.payload.ensures

pub returns-in_default : goal.returns-in_default
returns-in_default c = other_parts _ _ c.word_at-head.ensures c.of.ensures c.in_default.not-Match c.run_at.ensures
