use Rattle.std.proofs.Common.{◌≡◌, ◌+◌, ◌-◌, sym, ap, ◌∙◌, arith, []}
use Rattle.std.specs.Prelude.{◌∷◌}
use Rattle.library.specs.Package.{function_at, functions_from}
use Rattle.add.specs.Pool.{all_shallow}
use Rattle.rules.specs.Walk.{function_types}
use Rattle.start.specs.Measured.{functions-over, functions-next, functions-deep}
use Rattle.start.proofs.Measured.functions_are_shallow.Goals as goal

pub returns-then-not-function_is_shallow : goal.returns-then-not-function_is_shallow
returns-then-not-function_is_shallow c =
    let v = c.loop.invariant in (
      (λ t. sym (v.0 t ∙ functions-deep t c.args.self.now c.args.words.now c.loop.at (c.args.k - c.loop.counter) (omega arith)
          (c.function_is_shallow.ensures.0 t ∙ ap (λ l. all_shallow t l (function_types (function_at c.args.words.now c.loop.at ∷ []))) v.1) c.if-not-function_is_shallow.true)),
      c.function_is_shallow.ensures.1 ∙ v.1,
    )

pub loop-preserved : goal.loop-preserved
loop-preserved c =
    let v = c.loop.invariant in
    let e : c.args.k - c.loop.counter - 1 ≡ c.args.k - (c.loop.counter + 1) = omega arith in (
      (λ t. v.0 t ∙ functions-next t c.args.self.now c.args.words.now c.loop.at (c.args.k - c.loop.counter) (omega arith)
          (c.function_is_shallow.ensures.0 t ∙ ap (λ l. all_shallow t l (function_types (function_at c.args.words.now c.loop.at ∷ []))) v.1) c.if-not-function_is_shallow.false
          c.end-at.ensures
          ∙ ap (λ n. all_shallow t c.args.self.now (function_types (functions_from c.args.words.now c.end-at.result n))) e),
      c.function_is_shallow.ensures.1 ∙ v.1,
    )

pub returns : goal.returns
returns c =
    let v = c.loop.invariant in
    ((λ t. sym (v.0 t ∙ functions-over t c.args.self.now c.args.words.now c.loop.at (c.args.k - c.loop.counter) (omega arith))), v.1)
