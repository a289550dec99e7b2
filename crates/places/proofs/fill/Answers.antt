use Prim.Native.Nat.{◌+◌, ◌-◌}
use mathlib.Core.Path.{◌≡◌}
use native.Mathlib.Omega.{arith}
use Rattle.places.proofs.Filling.{filling-none, filling-more, filling-all}
use Rattle.places.proofs.fill.Goals as goal

pub loop-i-init : goal.loop-i-init
loop-i-init c = let whole : c.args.index + c.args.count - c.args.index ≡ c.args.count = omega arith in rw whole filling-none

pub loop-i-preserved : goal.loop-i-preserved
loop-i-preserved c = filling-more c.loop-i.invariant (omega arith) c.set_item.ensures c.place_after-at.ensures

pub shape_of-places : goal.shape_of-places
shape_of-places c = c.loop-i.invariant.long

pub returns : goal.returns
returns c = filling-all c.loop-i.invariant (omega arith)
