-- `operands::cast_begin` meets its contract. Assumes nothing.
use Rattle.std.proofs.Common.{ap, ◌∙◌}
use Rattle.visit.specs.Plain.{visit_of}
use Rattle.parameters.specs.Typing.{type-steps}
use Rattle.operands.proofs.Returns.{cast-typed}
use Rattle.operands.proofs.cast_begin.Goals as goal

pub type_from_type_expr-added-requires : goal.type_from_type_expr-added-requires
type_from_type_expr-added-requires c = rw c.word-expr.ensures c.requires

pub returns : goal.returns
returns c = cast-typed _ _ _ _ c.word-expr.ensures
    (λ T ls v. type-steps _ c.type_from_type_expr-added.result c.type_from_type_expr-added.ensures T ls v _)
    (c.answered.ensures ∙ ap (visit_of c.args.st) c.added.ensures)
