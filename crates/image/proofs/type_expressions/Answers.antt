-- `image::type_expressions` meets its contract: where each record is read, all are. Assumes nothing.
use Rattle.std.proofs.Common.{rules}
use Rattle.image.proofs.TypeRows.{types_lead}
use Rattle.image.proofs.type_expressions.Goals as goal

pub returns : goal.returns
returns c = types_lead c.args.script.now (λ from i to h. search rules) c.many.ensures
