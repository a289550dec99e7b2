-- `names::ident` meets its contract: one law for each return. Assumes nothing.
use Rattle.std.proofs.Common.{ap, ◌∙◌, Some}
use Rattle.names.proofs.Returns.{ident-bound, ident-poisoned, ident-none}
use Rattle.names.proofs.ident.Goals as goal

pub returns-in-Some-Bound : goal.returns-in-Some-Bound
returns-in-Some-Bound c = λ ls v words f t o. ident-bound _ c.args.n c.args.slot c.args.name _ c.env_get.ensures
    (c.in-Some-Bound.is ∙ ap Some c.in-Some-Bound.field-0-is) c.set_known.ensures c.answered.ensures ls v words f t _ _ o

pub returns-in-Some-Poisoned : goal.returns-in-Some-Poisoned
returns-in-Some-Poisoned c = λ ls v words f t o. ident-poisoned _ c.args.n c.args.slot c.args.name _ c.env_get.ensures
    (c.in-Some-Poisoned.is ∙ ap Some c.in-Some-Poisoned.field-0-is) ls v words _ f t _ _ o

pub returns-in-None : goal.returns-in-None
returns-in-None c =
    let told = c.no_binding-none.ensures.reports in
    λ ls v words f t o. ident-none _ c.args.n c.args.slot c.args.name _ c.env_get.ensures c.in-None.is told c.told.ensures c.answered-in-None.ensures ls v words _ f t o
