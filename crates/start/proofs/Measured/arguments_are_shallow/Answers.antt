use mathlib.Core.Path.{sym, ap, ◌∙◌}
use native.Mathlib.Omega.{arith}
use Rattle.add.specs.Parts.{shallow}
use Rattle.start.specs.Measured.{arguments-over, argument-next, argument-deep}
use Rattle.start.proofs.Measured.arguments_are_shallow.Goals as goal

pub returns-then-not-is_shallow : goal.returns-then-not-is_shallow
returns-then-not-is_shallow c =
    let v = c.loop-i.invariant in (
      (λ t. sym (v.0 t ∙ argument-deep t c.args.self.now c.args.signature.now.params c.loop-i.i (omega (arith, v.1)) c.argument_type.ensures
          (c.is_shallow.ensures.0 t ∙ ap (λ l. shallow t l c.argument_type.result) v.2) c.if-not-is_shallow.true)),
      c.is_shallow.ensures.1 ∙ v.2,
    )

pub loop-i-preserved : goal.loop-i-preserved
loop-i-preserved c =
    let v = c.loop-i.invariant in (
      (λ t. v.0 t ∙ argument-next t c.args.self.now c.args.signature.now.params c.loop-i.i (omega (arith, v.1)) c.argument_type.ensures
          (c.is_shallow.ensures.0 t ∙ ap (λ l. shallow t l c.argument_type.result) v.2) c.if-not-is_shallow.false),
      v.1,
      c.is_shallow.ensures.1 ∙ v.2,
    )

pub returns : goal.returns
returns c =
    let v = c.loop-i.invariant in
    ((λ t. sym (v.0 t ∙ arguments-over t c.args.self.now c.args.signature.now.params c.loop-i.i (omega (arith, v.1)))), v.2)
