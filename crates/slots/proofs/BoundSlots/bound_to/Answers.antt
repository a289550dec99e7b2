use mathlib.Core.Path.{refl, sym, ap, ◌∙◌}
use native.Mathlib.Omega.{arith}
use Rattle.tok.specs.Text.{name_bytes}
use Rattle.tok.proofs.TextLaws.{eq_same_bytes}
use Rattle.slots.proofs.PairReturns.{look-end, look_hit, look-next}
use Rattle.slots.proofs.BoundSlots.bound_to.Goals as goal
use Rattle.slots.proofs.BoundSlots.bound_to.Goals.{then-bound-slot-via-then-bound-slot, then-bound-slot-via-else-bound-slot+then-is_name}

pub loop-k-init : goal.loop-k-init
loop-k-init c = rw c.min-k.ensures refl

-- equal words stand for one name; and words of equal names
pub returns-then-bound-slot : goal.returns-then-bound-slot
returns-then-bound-slot c =
    let T = c.args.texts.now in
    let l = c.args.self.now.pairs.now in
    elim c.then-bound-slot.branch [
      | then-bound-slot-via-then-bound-slot w ↦
          let same = eq_same_bytes _ _ (ap (name_bytes T) (sym w.if-bound-slot.true)) in
          look_hit T l c.args.slot (omega arith) c.word_at-bound.ensures refl same c.word_at.ensures
      | then-bound-slot-via-else-bound-slot+then-is_name w ↦
          look_hit T l c.args.slot (omega arith) c.word_at-bound.ensures (rw (← c.name_bytes-wanted.ensures) w.is_name.ensures) w.if-is_name.true
          c.word_at.ensures
    ] ∙ sym c.loop-k.invariant

pub loop-k-preserved : goal.loop-k-preserved
loop-k-preserved c =
    c.loop-k.invariant
    ∙ look-next c.args.texts.now c.args.self.now.pairs.now c.args.slot (omega arith) c.word_at-bound.ensures
    (rw (← c.name_bytes-wanted.ensures) c.is_name.ensures) c.if-is_name.false

pub returns : goal.returns
returns c = look-end c.args.texts.now c.args.self.now.pairs.now c.args.slot (omega arith) ∙ sym c.loop-k.invariant
