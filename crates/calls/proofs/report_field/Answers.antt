-- `calls::report_field` meets its contract: the diagnostic, and poison. Assumes nothing.
use mathlib.Core.Path.{sym, ap, ◌∙◌}
use Rattle.calls.specs.Callees.{is_through_field}
use Rattle.calls.proofs.Returns.{other_than_field, field_told}
use Rattle.calls.proofs.report_field.Goals as goal

pub unreachable-requires : goal.unreachable-requires
unreachable-requires c = other_than_field _ (sym (ap is_through_field c.target_at.ensures) ∙ c.requires.through) c.in_default.not-Field

pub returns : goal.returns
returns c =
    let reported = c.call_through_field-r.ensures.reports in
    field_told _ _ c.args.node.now.n c.args.st c.in-Field.ensures reported c.told.ensures c.answered.ensures
