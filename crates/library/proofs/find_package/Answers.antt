use Rattle.std.proofs.Common.{◌-◌, ◌+◌, refl, sym, ◌∙◌, arith}
use Rattle.library.proofs.AccessWays.{packages-begin, package_found, package_past, package_none}
use Rattle.tok.proofs.PartLaws.{differs-other}
use Rattle.library.proofs.find_package.Goals as goal

pub loop-init : goal.loop-init
loop-init c = packages-begin _ _ _ (omega arith) (omega arith)

pub returns-then-is_name : goal.returns-then-is_name
returns-then-is_name c =
    package_found _ _ _ _ _ c.loop.invariant {left' = c.package_count-end.result - (c.loop.counter + 1)} (omega arith) c.word_at-w.ensures refl c.is_name.ensures c.if-is_name.true

pub loop-preserved : goal.loop-preserved
loop-preserved c =
    package_past _ _ _ _ _ c.loop.invariant (omega arith) c.word_at-w.ensures refl refl
    (elim c.if-not-differs_in.branch [ goal.then-not-differs_in+else-is_name w ↦ sym w.is_name.ensures ∙ w.if-is_name.false | goal.else-not-differs_in w ↦ differs-other _ _ _ _ (sym c.differs_in.ensures ∙ w.if-not-differs_in.false) ])
    c.end-at.ensures

pub returns : goal.returns
returns c = package_none _ _ _ _ _ c.loop.invariant (omega arith)
