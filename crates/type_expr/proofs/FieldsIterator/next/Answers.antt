use Rattle.std.specs.Prelude.{length}
use Rattle.std.proofs.Common.{arith, sym, ap, ◌∙◌}
use Rattle.type_expr.specs.TypesAt.{first-ready, rest-ready}
use Rattle.type_expr.proofs.Reading.{pairs-none, pairs-more}
use Rattle.type_expr.proofs.FieldsIterator.next.Goals as goal

pub returns-then-self-eq0-clause-steps : goal.returns-then-self-eq0-clause-steps
returns-then-self-eq0-clause-steps c =
    let e = sym c.self.view_is ∙ pairs-none _ _ c.if-self-eq0.true in
    (e, e)

pub invariant_of-result : goal.invariant_of-result
invariant_of-result c = (first-ready c.self.invariant c.if-self-eq0.false c.word_after-t.ensures).ready

pub invariant_of-self : goal.invariant_of-self
invariant_of-self c = rest-ready c.self.invariant c.if-self-eq0.false

pub returns-clause-steps : goal.returns-clause-steps
returns-clause-steps c = sym c.self.view_is ∙ pairs-more _ _ c.if-self-eq0.false c.word_at-name.ensures c.word_after-t.ensures

pub returns-clause-goes : goal.returns-clause-goes
returns-clause-goes c =
    let e = sym c.self.view_is ∙ pairs-more _ _ c.if-self-eq0.false c.word_at-name.ensures c.word_after-t.ensures in
    record { on = λ f. (tt, tt, omega (arith, ap length e)); keeps = tt; rests = λ f. tt }
