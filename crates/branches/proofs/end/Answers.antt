-- `branches::end` meets its contract: one law for each return. Assumes nothing.
use Rattle.branches.proofs.Ends.{end-poisoned, end-stops, end-compared}
use Rattle.branches.proofs.end.Goals as goal

pub returns-in_default : goal.returns-in_default
returns-in_default c = end-poisoned _ c.args.node.now.n _ _ c.args.st _ _ _ _ c.in_default.is

pub returns-in_err-after : goal.returns-in_err-after
returns-in_err-after c =
    end-stops _ c.args.node.now.n _ _ c.args.st _ _ _ _ c.in-Known.is c.compare_branches.ensures c.in_err-after.was c.from_residual.ensures.1

pub returns : goal.returns
returns c =
    end-compared _ c.args.node.now.n _ _ c.args.st _ _ _ _ c.in-Known.is c.compare_branches.ensures c.in_ok-after.was c.word-own.ensures
    c.alias.ensures c.answered.ensures
