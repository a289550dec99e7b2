use native.Mathlib.Omega.{arith}
use Rattle.externs.proofs.Returns.{writing_begin, writing_over, type-ready, writing_stops, writing_more}
use Rattle.externs.proofs.extern_arguments.Goals as goal

pub loop-k-init : goal.loop-k-init
loop-k-init c = (c.requires, writing_begin _ c.args.n c.args.from c.args.at _ c.args.used _)

pub type_from_type_expr-added-requires : goal.type_from_type_expr-added-requires
type_from_type_expr-added-requires c = type-ready c.loop-k.invariant.0 c.loop-k.invariant.1 (omega arith) c.word_after-t.ensures

pub returns-in_err-w : goal.returns-in_err-w
returns-in_err-w c =
    let added = c.type_from_type_expr-added in
    writing_stops c.loop-k.invariant.0 c.loop-k.invariant.1 (omega arith) c.word_after-t.ensures added.result added.ensures c.added.ensures c.in_err-w.was c.from_residual.ensures.1

pub loop-k-preserved : goal.loop-k-preserved
loop-k-preserved c =
    let (room, written) = c.loop-k.invariant in
    let added = c.type_from_type_expr-added in
    (room, writing_more room written (omega arith) c.word_after-t.ensures added.result added.ensures c.added.ensures c.in_ok-w.was c.word_at-name.ensures c.set_pair.ensures)

pub returns : goal.returns
returns c = writing_over c.loop-k.invariant.0 c.loop-k.invariant.1 (omega arith) (omega arith)
