use native.Mathlib.Omega.{arith}
use native.Mathlib.Nat.{sub-zero}
use Rattle.spans.specs.Ready.{args-type}
use Rattle.spans.proofs.Loops.{some-left, none-left, one-less, first-pair, next-pair}
use Rattle.spans.proofs.Loops.{args-all, args-less, args-done}
use Rattle.spans.proofs.cover_args.Goals as goal

pub loop-i-init : goal.loop-i-init
loop-i-init c = rw (sub-zero, first-pair) (args-all c.requires)

pub type_span-requires : goal.type_span-requires
type_span-requires c = args-type (some-left (omega arith)) c.loop-i.invariant.ready c.word_after.ensures

pub loop-i-preserved : goal.loop-i-preserved
loop-i-preserved c =
    rw (one-less, next-pair)
    (args-less c.loop-i.invariant (some-left (omega arith)) c.word_at.ensures c.token_span.ensures c.cover_spans-named.ensures c.word_after.ensures c.type_span.ensures
    c.cover_spans-covered.ensures)

pub returns : goal.returns
returns c = args-done c.loop-i.invariant (none-left (omega arith))
