-- `operators::fuse` meets its contract: one law for each return. Assumes nothing.
use Rattle.operators.proofs.Returns.{fuse-known, fuse-unsupported, fuse-incompatible}
use Rattle.operators.proofs.fuse.Goals as goal

pub returns-in-Some : goal.returns-in-Some
returns-in-Some c =
    fuse-known _ _ _ _ _ _ _ _ _ _ _ _ c.word_at-l.ensures c.word_at-r.ensures c.of.ensures c.of-2.ensures c.result_kind.ensures c.in-Some.is
    c.word.ensures c.set_known.ensures

pub returns-then-same_type : goal.returns-then-same_type
returns-then-same_type c =
    fuse-unsupported _ _ _ _ _ _ _ _ _ _ _ _ c.word_at-l.ensures c.word_at-r.ensures c.of.ensures c.of-2.ensures c.result_kind.ensures c.in_default.is
    c.same_type.ensures c.told.ensures c.if-same_type.true c.unsupported-told.ensures.reports

pub returns : goal.returns
returns c =
    fuse-incompatible _ _ _ _ _ _ _ _ _ _ _ _ c.word_at-l.ensures c.word_at-r.ensures c.of.ensures c.of-2.ensures c.result_kind.ensures c.in_default.is
    c.same_type.ensures c.told-2.ensures c.if-same_type.false c.incompatible-told.ensures.reports
