-- `values::array_of` meets its contract where an Array is added, or is refused (7, 8). Assumes nothing.
use Rattle.std.proofs.Common.{sym, rules, ◌∙◌}
use Rattle.add.specs.AllocLaws.{allocates_made}
use Rattle.ptype.specs.Add.{add_wrap}
use Rattle.rules.specs.Rules.{array_of}
use Rattle.rules.specs.Steps.{known, ty, set_known}
use Rattle.tok.specs.Step.{when}
use Rattle.state.specs.Adding.{added-step}
use Rattle.state.specs.Reporting.{on-ok, on-err}
use Rattle.values.proofs.Told.{same-steps}
use Rattle.values.proofs.array_of.Goals as goal

pub returns-in_err-word : goal.returns-in_err-word
unfolding array_of known ty when
returns-in_err-word c T ls v d m =
    let array = allocates_made c.new-arena.ensures.as_used c.add_array-added.ensures.allocates c.answer.ensures (search rules) in
    let step = added-step c.args.n (add_wrap T c.args.n 7 c.word_at-element.result) c.answer.result (array T c.args.n) in
    same-steps (on-err (set_known c.args.slot) step (sym c.added.ensures ∙ c.in_err-word.was) c.from_residual.ensures.1)
    (λ rest. rw (c.in-Known.is, c.if-poisoned.false, ← c.word_at-element.ensures))

pub returns : goal.returns
unfolding array_of known ty when
returns c T ls v d m =
    let array = allocates_made c.new-arena.ensures.as_used c.add_array-added.ensures.allocates c.answer.ensures (search rules) in
    let step = added-step c.args.n (add_wrap T c.args.n 7 c.word_at-element.result) c.answer.result (array T c.args.n) in
    same-steps (on-ok (set_known c.args.slot) step (sym c.added.ensures ∙ c.in_ok-word.was) (c.set_known.ensures _ d m))
    (λ rest. rw (c.in-Known.is, c.if-poisoned.false, ← c.word_at-element.ensures))
