-- `arguments::compared` meets its contract: equal types, or diagnostic 20. Assumes nothing.
use Rattle.arguments.proofs.Returns.{alike, differ}
use Rattle.arguments.proofs.compared.Goals as goal

pub returns-then-same_type : goal.returns-then-same_type
returns-then-same_type c = alike c.same_type.ensures c.if-same_type.true

pub returns : goal.returns
returns c = differ c.same_type.ensures c.if-same_type.false c.arg_mismatch-reported.ensures.reports c.told.ensures
