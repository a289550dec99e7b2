-- `checker::check` meets its contract: a refusal before the walk, or the walk. Assumes nothing.
use Rattle.std.proofs.Common.{sym}
use Rattle.std.proofs.lemmas.Result.{err_from_is_err_and}
use Rattle.ending.proofs.Ends.{refused-before}
use Rattle.checker.proofs.check.Goals as goal

pub returns-in_err-refuse : goal.returns-in_err-refuse
returns-in_err-refuse c =
    let p = err_from_is_err_and c.from_residual.result c.from_residual.ensures.1 in
    rw (p.1, p.2) (refused-before _ _ _ c.in_err-refuse.ensures)

pub check_accepted-requires : goal.check_accepted-requires
check_accepted-requires c = sym c.in_ok-refuse.ensures

pub returns : goal.returns
returns c = (c.check_accepted.ensures.means, c.check_accepted.ensures.only)
