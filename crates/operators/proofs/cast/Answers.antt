-- `operators::cast` meets its contract: one law for each return. Assumes nothing.
use Rattle.operators.proofs.Returns.{cast-known, cast_bad, cast-full, cast_same}
use Rattle.operators.proofs.cast.Goals as goal

pub returns-then-castable : goal.returns-then-castable
returns-then-castable c =
    cast-known _ _ _ _ _ _ _ _ _ _ _ c.word_at-i.ensures c.of.ensures c.of-2.ensures c.castable.ensures c.if-castable.true c.set_known.ensures

pub returns-then-not-same_type : goal.returns-then-not-same_type
returns-then-not-same_type c =
    cast_bad _ _ _ _ _ _ _ _ _ _ _ c.word_at-i.ensures c.of.ensures c.of-2.ensures c.castable.ensures c.if-castable.false
    c.same_type.ensures c.if-not-same_type.true c.bad_cast-bad.ensures.reports c.told.ensures

pub returns-in_err-used : goal.returns-in_err-used
returns-in_err-used c =
    cast-full _ _ _ _ _ _ _ _ _ _ _ c.word_at-i.ensures c.of.ensures c.of-2.ensures c.castable.ensures c.if-castable.false
    c.same_type.ensures c.if-not-same_type.false c.redundant_cast-reported.ensures.reports c.told-2.ensures c.in_err-used.was c.from_residual.ensures.1

pub returns : goal.returns
returns c =
    cast_same _ _ _ _ _ _ _ _ _ _ _ c.word_at-i.ensures c.of.ensures c.of-2.ensures c.castable.ensures c.if-castable.false
    c.same_type.ensures c.if-not-same_type.false c.redundant_cast-reported.ensures.reports c.told-2.ensures c.in_ok-used.was c.set_known-2.ensures
