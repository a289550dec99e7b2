-- `parameters::one_argument` meets its contract: one law for each return. Assumes nothing.
use Rattle.parameters.proofs.Returns.{one-refused, one-bound}
use Rattle.parameters.proofs.one_argument.Goals as goal

pub returns-in_err-w : goal.returns-in_err-w
returns-in_err-w c =
    let added = c.type_from_type_expr-added in
    one-refused c.args.n c.args.slot c.args.at c.requires c.word_at-name.ensures c.word_after-t.ensures added.result added.ensures c.added.ensures c.in_err-w.was c.from_residual.ensures.1

pub returns : goal.returns
returns c =
    let added = c.type_from_type_expr-added in
    one-bound c.args.n c.args.slot c.args.at c.requires c.word_at-name.ensures c.word_after-t.ensures added.result added.ensures c.added.ensures
    c.in_ok-w.was c.store.ensures c.bind_name.ensures c.one_more.ensures
