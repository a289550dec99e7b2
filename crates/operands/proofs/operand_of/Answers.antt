-- `operands::operand_of` meets its contract: one law for each kind. Assumes nothing.
use Rattle.std.proofs.Common.{sym, ◌∙◌}
use Rattle.ast.specs.KindLaws.{node-number, node-not}
use Rattle.operands.specs.Parts.{at-unary, at_let, at-other}
use Rattle.operands.proofs.operand_of.Goals as goal

pub returns-in-Unary : goal.returns-in-Unary
returns-in-Unary c = c.word.ensures ∙ sym (at-unary c.args.node.now.image.now.words c.args.node.now.at (node-number _ c.in-Unary.ensures))

pub returns-in-Let : goal.returns-in-Let
returns-in-Let c = c.word-in-Let.ensures ∙ sym (at_let c.args.node.now.image.now.words c.args.node.now.at (node-number _ c.in-Let.ensures))

pub returns-in_default : goal.returns-in_default
returns-in_default c =
    c.word-in_default.ensures ∙ sym
    (at-other c.args.node.now.image.now.words c.args.node.now.at (node-not _ c.kind.ensures c.in_default.not-Unary) (node-not _ c.kind.ensures c.in_default.not-Let))
