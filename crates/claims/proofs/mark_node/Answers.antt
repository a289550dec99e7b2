-- `claims::mark_node` meets its contract. Assumes nothing.
use mathlib.Core.Path.{refl}
use Rattle.std.proofs.lemmas.Result.{err_from_is_err_and}
use Rattle.claims.proofs.ClaimWays.{part-stop, slots-more}
use Rattle.claims.proofs.mark_node.Goals as goal

pub returns-in_err-mark_parts : goal.returns-in_err-mark_parts
returns-in_err-mark_parts c =
    let p = err_from_is_err_and c.from_residual.result c.from_residual.ensures.1 in
    rw p.1 (part-stop c.in_err-mark_parts.ensures refl)

pub returns : goal.returns
returns c = slots-more c.in_ok-mark_parts.ensures refl c.slot-slot.ensures c.arguments-n.ensures c.mark_count.ensures
