use Prim.Native.Nat.{◌+◌, ◌-◌}
use mathlib.Core.Path.{◌≡◌, refl}
use native.Mathlib.Omega.{arith}
use Rattle.std.proofs.lemmas.Result.{err_from_is_err_and}
use Rattle.claims.proofs.MarkWays.{count-to_mark, count-stop, count-more, count-end}
use Rattle.claims.proofs.mark_count.Goals as goal

pub loop-x-init : goal.loop-x-init
loop-x-init c = let whole : c.args.first + c.args.n - c.args.first ≡ c.args.n = omega arith in rw whole count-to_mark

pub returns-in_err-mark : goal.returns-in_err-mark
returns-in_err-mark c =
    let p = err_from_is_err_and c.from_residual.result c.from_residual.ensures.1 in
    rw p.1 (count-stop c.loop-x.invariant (omega arith) c.in_err-mark.ensures refl)

pub loop-x-preserved : goal.loop-x-preserved
loop-x-preserved c = count-more c.loop-x.invariant (omega arith) c.in_ok-mark.ensures (omega arith) refl

pub shape_of-marks : goal.shape_of-marks
shape_of-marks c = c.loop-x.invariant.long

pub returns : goal.returns
returns c = count-end c.loop-x.invariant (omega arith)
