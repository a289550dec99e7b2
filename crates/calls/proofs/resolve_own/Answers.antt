-- `calls::resolve_own` meets its contract: the step, as a visit. Assumes nothing.
use Rattle.calls.proofs.Returns.{own-visits}
use Rattle.calls.proofs.resolve_own.Goals as goal

pub returns : goal.returns
returns c = own-visits _ c.args.call.n c.args.call.slot c.args.name _ c.args.st c.resolve_call-step.ensures c.answered.ensures
