-- `typecheck::nodes` meets its contract: the roots, one after the other (walk_laws, `Lists`). Assumes nothing.
use native.Mathlib.Omega.{arith}
use Rattle.visiting.specs.Then.{passed_on}
use Rattle.walk_laws.specs.Lists as List
use Rattle.typecheck.proofs.nodes.Goals as goal

pub loop-place-init : goal.loop-place-init
loop-place-init c = rw List.whole-left (List.turn-begin c.requires c.slot_count.ensures)

pub node-requires : goal.node-requires
node-requires c = List.turn-visit c.loop-place.invariant (omega arith) c.word_at.ensures

pub returns-in_err-a : goal.returns-in_err-a
returns-in_err-a c = passed_on c.from_residual.ensures.1 (List.turn-stops c.loop-place.invariant (omega arith) c.word_at.ensures c.in_err-a.ensures)

pub loop-place-preserved : goal.loop-place-preserved
loop-place-preserved c = rw List.one-less (List.turn-next c.loop-place.invariant (omega arith) c.word_at.ensures c.in_ok-a.ensures)

pub returns : goal.returns
returns c = List.turn_end c.loop-place.invariant (omega arith)
