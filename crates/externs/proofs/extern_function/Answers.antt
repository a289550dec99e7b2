-- `externs::extern_function` meets its contract: one law for each return. Assumes nothing.
use Rattle.externs.proofs.Returns.{arguments-room, function-stops, function-refused, function-done}
use Rattle.externs.proofs.extern_function.Goals as goal

pub extern_arguments-requires : goal.extern_arguments-requires
extern_arguments-requires c = arguments-room c.requires c.word_at-name.ensures c.word_after-count.ensures c.set_pair.ensures

pub returns-in_err-used : goal.returns-in_err-used
returns-in_err-used c =
    function-stops c.requires c.word_at-name.ensures c.word_after-count.ensures c.set_pair.ensures c.extern_arguments.result c.extern_arguments.ensures c.in_err-used.was c.from_residual.ensures.1

pub returns-in_err-w : goal.returns-in_err-w
returns-in_err-w c =
    function-refused c.requires c.word_at-name.ensures c.word_after-count.ensures c.set_pair.ensures c.extern_arguments.result c.extern_arguments.ensures c.in_ok-used.was c.word_after-t.ensures
    c.type_from_type_expr-added.result c.type_from_type_expr-added.ensures c.added.ensures c.in_err-w.was c.from_residual-in_err-w.ensures.1

pub returns : goal.returns
returns c =
    function-done c.requires c.word_at-name.ensures c.word_after-count.ensures c.set_pair.ensures c.extern_arguments.result c.extern_arguments.ensures c.in_ok-used.was c.word_after-t.ensures
    c.type_from_type_expr-added.result c.type_from_type_expr-added.ensures c.added.ensures c.in_ok-w.was c.store.ensures
