-- `start::Measured::function_is_shallow` meets its contract: the arguments, and then the return type. Assumes nothing.
use mathlib.Core.Path.{ap, ◌∙◌}
use Rattle.add.specs.Parts.{shallow}
use Rattle.library.specs.Package.{function_at}
use Rattle.start.specs.Measured.{function-deep, function-by}
use Rattle.start.proofs.Measured.function_is_shallow.Goals as goal

pub returns-then-not-arguments_are_shallow : goal.returns-then-not-arguments_are_shallow
returns-then-not-arguments_are_shallow c =
    let a = c.arguments_are_shallow.ensures in
    ((λ t. function-deep t c.args.self.now (function_at c.args.function.now.words.now c.args.function.now.at) (rw c.signature-signature.ensures at (a.0 t)) c.if-not-arguments_are_shallow.true), a.1)

pub returns : goal.returns
returns c =
    let a = c.arguments_are_shallow.ensures in (
      (λ t. function-by t c.args.self.now (function_at c.args.function.now.words.now c.args.function.now.at) (rw c.signature-signature.ensures at (a.0 t)) c.if-not-arguments_are_shallow.false
          (rw c.signature-signature.ensures at c.return_type.ensures)
          (c.is_shallow.ensures.0 t ∙ ap (λ l. shallow t l c.return_type.result) a.1)),
      c.is_shallow.ensures.1 ∙ a.1,
    )
