use Prim.Native.Nat.{◌+◌, ◌*◌, ◌-◌}
use mathlib.Core.Path.{◌≡◌}
use native.Mathlib.Omega.{arith}
use Rattle.places.proofs.Levelling.{most-none, most-more, most-all}
use Rattle.places.proofs.most_levels.Goals as goal

pub loop-field-init : goal.loop-field-init
loop-field-init c = let here : c.args.at + 2 * 0 ≡ c.args.at = omega arith in let whole : c.args.fields - 0 ≡ c.args.fields = omega arith in rw (here, whole) most-none

pub loop-field-preserved : goal.loop-field-preserved
loop-field-preserved c = most-more c.loop-field.invariant (omega arith) (omega arith) c.word_at.ensures c.levels.ensures c.max-most.ensures

pub returns : goal.returns
returns c = most-all c.loop-field.invariant (omega arith)
