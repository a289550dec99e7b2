-- `operators::unary` meets its contract: one law for each return. Assumes nothing.
use Rattle.operators.proofs.Returns.{unary-known, unary_bad}
use Rattle.operators.proofs.unary.Goals as goal

pub returns-then-takes : goal.returns-then-takes
returns-then-takes c =
    unary-known _ _ _ _ _ _ _ _ _ _ _ c.word_at-r.ensures c.of-kind.ensures c.takes.ensures c.if-takes.true c.word.ensures c.set_known.ensures

pub returns : goal.returns
returns c =
    unary_bad _ _ _ _ _ _ _ _ _ _ _ c.word_at-r.ensures c.of-kind.ensures c.takes.ensures c.if-takes.false
    c.bad_unary-told.ensures.reports c.told.ensures
