use Rattle.std.proofs.Common.{refl, ◌∙◌}
use Rattle.selection.proofs.Ways.{count-differs, alike-more, alike-not, alike_all, none-fits, passed, taken}
use Rattle.selection.proofs.position.Goals as goal

pub candidates-preserved-then-argument_count-provided : goal.candidates-preserved-then-argument_count-provided
candidates-preserved-then-argument_count-provided c =
    passed _ _ _ _ c.candidates.invariant c.in-Some.ensures.steps (count-differs _ _ _ (λ e. c.if-argument_count-provided.true (c.argument_count.ensures ∙ e)))

pub candidates-preserved : goal.candidates-preserved
candidates-preserved c =
    passed _ _ _ _ c.candidates.invariant c.in-Some.ensures.steps
    (alike-not _ _ _ c.loop-i.invariant c.loop-i-test.true c.argument_type-expected.ensures refl c.same_type.ensures c.if-not-same_type.true)

pub loop-i-preserved : goal.loop-i-preserved
loop-i-preserved c =
    alike-more _ _ _ c.loop-i.invariant c.loop-i-test.true c.argument_type-expected.ensures refl c.same_type.ensures c.if-not-same_type.false

pub returns-in-candidates : goal.returns-in-candidates
returns-in-candidates c = taken _ _ _ _ c.candidates.invariant c.in-Some.ensures.steps (alike_all _ _ _ c.loop-i.invariant c.loop-i-test.false)

pub returns : goal.returns
returns c = none-fits _ _ _ _ c.candidates.invariant c.in-None.ensures.steps.0
