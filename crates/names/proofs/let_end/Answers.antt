-- `names::let_end` meets its contract: one law for each return. Assumes nothing.
use Rattle.names.proofs.Returns.{let_refused, let_bound}
use Rattle.names.proofs.let_end.Goals as goal

pub returns-in_err-binding : goal.returns-in_err-binding
returns-in_err-binding c = let_refused c.args.n c.args.slot c.args.name c.args.answer c.let_binding.ensures c.in_err-binding.was c.from_residual.ensures.1

pub returns : goal.returns
returns c = let_bound c.args.n c.args.slot c.args.name c.args.answer c.let_binding.ensures c.requires c.in_ok-binding.was c.bind.ensures c.one_more-st.ensures c.set_known.ensures c.answered.ensures
