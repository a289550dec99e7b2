use Rattle.std.proofs.lemmas.Result.{err_from_is_err_and}
use Rattle.reader.proofs.Ways.{all_left, turn_stops, turn_more, none_after}
use Rattle.reader.proofs.Reader.many.Goals as goal

pub loop-i-init : goal.loop-i-init
loop-i-init g c = λ to h. all_left h

pub returns-in_err-to : goal.returns-in_err-to
returns-in_err-to g c =
    let p = err_from_is_err_and c.from_residual.result c.from_residual.ensures.1 in
    rw (p.1, p.2) (c.loop-i.invariant _ (turn_stops c.loop-i-test.true (c.in_err-to.ensures)))

pub loop-i-preserved : goal.loop-i-preserved
loop-i-preserved g c = λ to h. c.loop-i.invariant to (turn_more c.loop-i-test.true c.in_ok-to.ensures h)

pub returns : goal.returns
returns g c = c.loop-i.invariant _ (none_after c.loop-i-test.false)
