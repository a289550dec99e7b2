-- `imports::import_node` meets its contract: one law for each return. Assumes nothing.
use Rattle.imports.proofs.Returns.{node-stops, node_done}
use Rattle.imports.proofs.import_node.Goals as goal

pub returns-in_err-after : goal.returns-in_err-after
returns-in_err-after c = node-stops _ _ _ c.args.n c.args.slot c.args.token c.args.at c.args.count c.import_all.ensures c.in_err-after.was c.from_residual.ensures.1

pub returns : goal.returns
returns c = node_done _ _ _ c.args.n c.args.slot c.args.token c.args.at c.args.count c.import_all.ensures c.in_ok-after.was c.set_known-void.ensures c.answered.ensures
