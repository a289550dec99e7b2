use mathlib.Core.Path.{refl}
use native.Mathlib.Omega.{arith}
use native.Mathlib.Nat.{sub-zero}
use Rattle.std.proofs.lemmas.Result.{err_from_is_err_and}
use Rattle.node_parts.specs.Lists.{place-first, place-next}
use Rattle.claims.proofs.MarkWays.{to_mark, run-stop, run_more, run_end}
use Rattle.claims.proofs.mark_run.Goals as goal

pub loop-k-init : goal.loop-k-init
loop-k-init c = rw (sub-zero, place-first c.args.run) to_mark

pub returns-in_err-mark : goal.returns-in_err-mark
returns-in_err-mark c =
    let p = err_from_is_err_and c.from_residual.result c.from_residual.ensures.1 in
    rw p.1 (run-stop c.loop-k.invariant (omega arith) c.number.ensures c.in_err-mark.ensures refl)

pub loop-k-preserved : goal.loop-k-preserved
loop-k-preserved c =
    rw (← place-next c.args.run c.loop-k.k) (run_more c.loop-k.invariant (omega arith) c.number.ensures c.in_ok-mark.ensures (omega arith) c.requires.0 refl)

pub shape_of-marks : goal.shape_of-marks
shape_of-marks c = c.loop-k.invariant.long

pub returns : goal.returns
returns c = run_end c.loop-k.invariant (omega arith)
