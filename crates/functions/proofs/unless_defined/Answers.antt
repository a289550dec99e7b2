-- `functions::unless_defined` meets its contract: one law for each return. Assumes nothing.
use Rattle.functions.proofs.Returns.{name_new, name-met}
use Rattle.functions.proofs.unless_defined.Goals as goal

pub returns-in_default : goal.returns-in_default
returns-in_default c = λ ls v words s t e o. name_new _ c.args.n c.args.name c.args.st _ c.find.result c.find.ensures c.in_default.is ls v words s t _ _ e o

pub returns : goal.returns
returns c =
    let told = c.defined_already-met.ensures.reports in
    name-met _ c.args.n c.args.name c.args.st _ c.find.result c.find.ensures c.in-Some.is told c.told.ensures
