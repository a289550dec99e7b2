use native.Mathlib.Omega.{arith}
use Rattle.apply.proofs.FieldReturns.{writing_all, writing_end, size_fits, size-ends, writing_next}
use Rattle.apply.proofs.set_pairs.Goals as goal

pub loop-i-init : goal.loop-i-init
loop-i-init c = writing_all _ (omega arith) (omega arith) (omega arith) c.requires

pub applied_size-size-requires : goal.applied_size-size-requires
applied_size-size-requires c = size_fits c.loop-i.invariant (λ z. omega arith) c.field_type-x.ensures

pub overflow_add-end : goal.overflow_add-end
overflow_add-end c = omega (arith, size-ends c.loop-i.invariant (λ z. omega arith) c.field_type-x.ensures c.applied_size-size.ensures)

pub applied_word-new-requires : goal.applied_word-new-requires
applied_word-new-requires c = (c.applied_size-size.ensures, (omega arith, size-ends c.loop-i.invariant (λ z. omega arith) c.field_type-x.ensures c.applied_size-size.ensures))

pub loop-i-preserved : goal.loop-i-preserved
loop-i-preserved c =
    writing_next c.loop-i.invariant (λ z. omega arith) c.field_type-x.ensures c.applied_size-size.ensures (omega arith) (omega arith) (omega arith)
    c.word_at-name.ensures c.applied_word-new.ensures c.set_pair.ensures

pub returns : goal.returns
returns c = writing_end c.loop-i.invariant (omega arith)
