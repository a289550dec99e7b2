-- `operands::one_end` meets its contract: one law for each return. Assumes nothing.
use native.Mathlib.Omega.{arith}
use Rattle.ast.specs.KindLaws.{node-number, node-not}
use Rattle.operands.proofs.Returns.{let_binds, one_let, one-poisoned, one-unary, one_field}
use Rattle.operands.proofs.one_end.Goals as goal

pub let_end-requires : goal.let_end-requires
let_end-requires c = let_binds c.requires (node-number _ c.in-Let.ensures) c.word-second.ensures

pub returns-in-Let : goal.returns-in-Let
returns-in-Let c =
    one_let _ _ _ _ _ _ (node-number _ c.in-Let.ensures) c.word-slot.ensures c.word-second.ensures
    c.let_end.ensures

pub returns-in_default-answer : goal.returns-in_default-answer
returns-in_default-answer c =
    let unary = node-number _ c.in-Unary.ensures in
    λ ls v words f o. one-poisoned _ _ _ _ _ _ (λ q. omega (arith, q, unary)) c.in_default-answer.is ls v words _ f _ _ _ _ o

pub returns-in_default-answer-2 : goal.returns-in_default-answer-2
returns-in_default-answer-2 c =
    λ ls v words f o. one-poisoned _ _ _ _ _ _ (node-not _ c.kind.ensures c.in_default.not-Let) c.in_default-answer-2.is
    ls v words _ f _ _ _ _ o

pub returns-in-Known : goal.returns-in-Known
returns-in-Known c =
    one-unary _ _ _ _ _ _ (node-number _ c.in-Unary.ensures) c.in-Known.is
    c.word-slot.ensures c.word-second.ensures c.word-third.ensures c.unary.ensures c.answered.ensures _

pub returns-in-Known-answer : goal.returns-in-Known-answer
returns-in-Known-answer c =
    one_field _ _ _ _ _ _ (node-not _ c.kind.ensures c.in_default.not-Unary) (node-not _ c.kind.ensures c.in_default.not-Let)
    c.in-Known-answer.is c.word-slot.ensures c.word-third.ensures c.field.ensures c.answered-in_default.ensures _
