use mathlib.Core.Path.{refl, ◌∙◌}
use native.Mathlib.Omega.{arith}
use lib.ListN.{length-set}
use Rattle.std.proofs.lemmas.Result.{err_from_is_err_and}
use Rattle.image.proofs.NodeRows.{at_first, one_more, stops_there, at_last}
use Rattle.image.proofs.nodes_by.Goals as goal

pub loop-i-init : goal.loop-i-init
loop-i-init c = (refl, at_first _)

pub returns-in_err-to : goal.returns-in_err-to
returns-in_err-to c =
    let p = err_from_is_err_and c.from_residual.result c.from_residual.ensures.1 in
    rw (p.1, p.2) (stops_there c.loop-i.invariant.1 c.loop-i-test.true _ c.in_err-to.ensures)

pub loop-i-preserved : goal.loop-i-preserved
loop-i-preserved c = (length-set c.loop-i.callable _ _ ∙ c.loop-i.invariant.0, one_more c.loop-i.invariant.1 c.loop-i-test.true _ _ (omega arith) c.callable_there-called.ensures c.in_ok-to.ensures)

pub returns : goal.returns
returns c = at_last c.loop-i.invariant.1 c.loop-i-test.false
