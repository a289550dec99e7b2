-- `values::field` meets its contract: no record (12), no such field (13), or the field's type. Assumes nothing.
use borrow.Author.Tests.{ne_eqb}
use Rattle.tok.specs.Word.{kind_of}
use Rattle.ptype.specs.TypeKindLaws.{type-number, type-not}
use Rattle.rules.specs.Rules.{field}
use Rattle.rules.specs.Steps.{ty, tree, on_option}
use Rattle.tok.specs.Step.{when}
use Rattle.state.specs.Reporting.{poisons-step}
use Rattle.values.specs.Answers.{found_of}
use Rattle.values.proofs.Told.{same-steps}
use Rattle.values.proofs.field.Goals as goal

pub returns-in_default : goal.returns-in_default
unfolding field ty tree when
returns-in_default c ls v =
    rw c.told.ensures
    (same-steps (poisons-step c.args.n c.no_record-other.ensures.reports)
    (λ rest. rw (← c.word_at-w.ensures, ne_eqb (kind_of c.word_at-w.result) 8 (type-not _ c.of.ensures c.in_default.not-Record))))

pub returns-in_default-found : goal.returns-in_default-found
unfolding field ty tree when on_option found_of
returns-in_default-found c ls v =
    rw c.told-in_default-found.ensures
    (same-steps (poisons-step c.args.n c.no_field-none.ensures.reports)
    (λ rest. rw (← c.word_at-w.ensures, type-number _ c.in-Record.ensures, ← c.find_field-found.ensures, c.in_default-found.is)))

pub returns : goal.returns
unfolding field ty tree when on_option found_of
returns c ls v =
    same-steps (c.field_type.ensures c.args.types.now.words.now c.args.diagnostics.now c.args.messages.now)
    (λ rest. rw (← c.word_at-w.ensures, type-number _ c.in-Record.ensures, ← c.find_field-found.ensures, c.in-Some.is))
