use native.Mathlib.Omega.{arith}
use native.Mathlib.Nat.{sub-zero}
use Rattle.node_parts.specs.Lists.{place-first, place-next}
use Rattle.depth.proofs.PartWays.{to-measure, run_more, run_end}
use Rattle.depth.proofs.deepest_run.Goals as goal

pub loop-k-init : goal.loop-k-init
loop-k-init c = rw (sub-zero, place-first c.args.run) to-measure

pub loop-k-preserved : goal.loop-k-preserved
loop-k-preserved c =
    rw (← place-next c.args.run c.loop-k.k) (run_more c.loop-k.invariant (omega arith) (omega arith) c.requires.0 c.number.ensures c.item_at.ensures c.max-d.ensures)

pub returns : goal.returns
returns c = run_end c.loop-k.invariant (omega arith)
