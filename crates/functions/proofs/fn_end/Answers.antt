-- `functions::fn_end` meets its contract: one law for each return. Assumes nothing.
use Rattle.functions.proofs.Returns.{end_refused, end-done}
use Rattle.functions.proofs.fn_end.Goals as goal

pub returns-in_err-after : goal.returns-in_err-after
returns-in_err-after c = end_refused _ c.args.n c.args.slot c.args.name c.args.ret _ c.args.computed c.type_token-token.ensures c.check_return.ensures c.in_err-after.was c.from_residual.ensures.1

pub returns : goal.returns
returns c = end-done _ c.args.n c.args.slot c.args.name c.args.ret _ c.args.computed c.type_token-token.ensures c.check_return.ensures c.in_ok-after.was c.set_known.ensures
