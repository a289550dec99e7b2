use mathlib.Core.Path.{refl, ◌∙◌}
use native.Mathlib.Omega.{arith}
use Rattle.fields.proofs.Returns.{none-set, one_set, value-ready, all_set}
use Rattle.fields.proofs.set_pairs.Goals as goal

pub loop-i-init : goal.loop-i-init
loop-i-init c = (none-set _ _ _ _ _, omega arith, refl)

pub overflow_add-pair : goal.overflow_add-pair
overflow_add-pair c = omega (arith, c.requires.1.room)

pub overflow_mul-i : goal.overflow_mul-i
overflow_mul-i c = omega (arith, c.requires.1.room)

pub node_value-ty-requires : goal.node_value-ty-requires
node_value-ty-requires c = value-ready c.requires.1 (omega arith) c.word_after-value.ensures

pub overflow_add-to : goal.overflow_add-to
overflow_add-to c =
    omega (arith, c.requires.1.room, c.requires.0)

pub loop-i-preserved : goal.loop-i-preserved
loop-i-preserved c =
    (one_set _ _ _ _ _ c.loop-i.invariant.0 c.word_at-name.ensures c.word_after-value.ensures c.node_value-ty.ensures c.set_pair.ensures, omega (arith), c.set_pair.auto.types ∙ c.loop-i.invariant.2)

pub shape_of-types : goal.shape_of-types
shape_of-types c = c.loop-i.invariant.2

pub returns : goal.returns
returns c = all_set _ _ _ _ _ c.loop-i.invariant.0 c.loop-i.invariant.1 (omega arith)
