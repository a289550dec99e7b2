use mathlib.Core.Path.{refl}
use native.Mathlib.Omega.{arith}
use Rattle.spans.specs.Ready.{extern-room, extern-args, extern-ret}
use native.Mathlib.Nat.{sub-zero}
use Rattle.spans.proofs.Loops.{some-left, none-left, one-less}
use Rattle.spans.proofs.Loops.{externs_all, externs_less, externs_done}
use Rattle.spans.proofs.cover_externs.Goals as goal

pub loop-init : goal.loop-init
loop-init c = rw sub-zero (externs_all c.requires)

pub cover_args-args-requires : goal.cover_args-args-requires
cover_args-args-requires c = extern-args (some-left c.loop-test.true) c.loop.invariant.ready c.word_after-count.ensures

pub type_span-requires : goal.type_span-requires
type_span-requires c = extern-ret (some-left c.loop-test.true) c.loop.invariant.ready c.word_after.ensures

pub overflow_add-pairs : goal.overflow_add-pairs
overflow_add-pairs c = omega (arith, extern-room (some-left c.loop-test.true) c.loop.invariant.ready refl)

pub overflow_mul-i : goal.overflow_mul-i
overflow_mul-i c = omega (arith, extern-room (some-left c.loop-test.true) c.loop.invariant.ready c.word_after-count.ensures)

pub overflow_add-i : goal.overflow_add-i
overflow_add-i c = omega (arith, extern-room (some-left c.loop-test.true) c.loop.invariant.ready c.word_after-count.ensures)

pub loop-preserved : goal.loop-preserved
loop-preserved c =
    let left = some-left c.loop-test.true in
    let args = c.cover_args-args.ensures in
    let ret = c.type_span.ensures in
    rw one-less
    (externs_less c.loop.invariant left c.word_after-count.ensures c.word_at.ensures c.token_span.ensures c.cover_spans-named.ensures args c.word_after.ensures ret c.cover_spans-covered.ensures)

pub returns : goal.returns
returns c = externs_done c.loop.invariant (none-left c.loop-test.false)
