use native.Mathlib.Omega.{arith}
use Rattle.spans.proofs.Loops.{some-left, none-left, one-less, whole-left}
use Rattle.spans.proofs.Loops.{tokens_all, tokens_less, tokens_done}
use Rattle.spans.proofs.cover_tokens.Goals as goal

pub loop-i-init : goal.loop-i-init
loop-i-init c = rw whole-left (tokens_all c.requires)

pub loop-i-preserved : goal.loop-i-preserved
loop-i-preserved c = rw one-less (tokens_less c.loop-i.invariant (some-left (omega arith)) c.word_at.ensures c.token_span.ensures c.cover_spans-covered.ensures)

pub returns : goal.returns
returns c = tokens_done c.loop-i.invariant (none-left (omega arith))
