-- `claims::mark` meets its contract. Assumes nothing.
use Rattle.claims.proofs.MarkWays.{past, again, first}
use Rattle.claims.proofs.mark.Goals as goal

pub returns-then-x-marks : goal.returns-then-x-marks
returns-then-x-marks c = past c.args.marks.now _ c.if-x-marks.true

pub returns-then-marks-x : goal.returns-then-marks-x
returns-then-marks-x c = again c.args.marks.now _ c.if-marks-x.true

pub returns : goal.returns
returns c = first c.args.marks.now _ c.if-marks-x.false
