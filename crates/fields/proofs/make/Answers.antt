-- `fields::make` meets its contract: the type is added, or refused (7, 8), and recorded. Assumes nothing.
use Rattle.std.proofs.Common.{sym, rules, ◌∙◌}
use Rattle.add.specs.AllocLaws.{allocates_made}
use Rattle.fields.proofs.Returns.{made-refused, made-set}
use Rattle.fields.proofs.make.Goals as goal

pub returns-in_err-word : goal.returns-in_err-word
returns-in_err-word c =
    let added = allocates_made c.new-arena.ensures.as_used c.add_record-added.ensures c.answer.ensures (search rules) in
    made-refused c.args.node.now.n _ _ c.args.st _ added (sym c.added.ensures ∙ c.in_err-word.was) c.from_residual.ensures.1

pub returns : goal.returns
returns c =
    let added = allocates_made c.new-arena.ensures.as_used c.add_record-added.ensures c.answer.ensures (search rules) in
    made-set c.args.node.now.n _ _ c.args.st _ added (sym c.added.ensures ∙ c.in_ok-word.was) c.word.ensures c.set_known-step.ensures c.answered.ensures
