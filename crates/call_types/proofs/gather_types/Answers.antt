use mathlib.Core.Path.{refl, sym, ◌∙◌}
use native.Mathlib.Omega.{arith}
use lib.ListN.{length-set}
use lib.Seq.{length-take-le, take_at, take_all}
use Rattle.call_types.proofs.Turns.{none-gathered, all-gathered, more-gathered}
use Rattle.call_args.proofs.Slots.{number-ready}
use Rattle.call_types.proofs.gather_types.Goals as goal

pub loop-i-init : goal.loop-i-init
loop-i-init c = (none-gathered _ _ _ _ _, length-take-le _ _ c.requires.room)

pub overflow_add-call : goal.overflow_add-call
overflow_add-call c = omega (arith, c.requires.nodes.room)

pub slot_of-slot-requires : goal.slot_of-slot-requires
slot_of-slot-requires c = number-ready c.requires.nodes (omega (arith, c.loop-i.invariant.1)) c.word_at-number.ensures

pub loop-i-preserved : goal.loop-i-preserved
loop-i-preserved c =
    let e = c.word_at-number.ensures in (
      more-gathered _ _ _ _ c.loop-i.invariant.0 (omega (arith, c.loop-i.invariant.1))
          (omega (arith, c.loop-i.invariant.1)) e c.slot_of-slot.ensures refl c.word_at.ensures,
      simp length-set c.loop-i.invariant.1,
    )

pub returns : goal.returns
returns c =
    let long = c.loop-i.invariant.1 in
    take_at _ _ _ long ∙ sym (take_all _ _ (omega (arith, long))) ∙ all-gathered _ _ _ _ c.loop-i.invariant.0 (omega (arith, long, c.loop-i-test.false, c.loop-i.auto.words))
