-- `imports::import_all` meets its contract: one law for each return, and for the loop's turn. Assumes nothing.
use native.Mathlib.Omega.{arith}
use Rattle.imports.proofs.Returns.{import_begin, import_empty, import_room, import_over, import_stops, import_more}
use Rattle.imports.proofs.import_all.Goals as goal

pub returns-then-count-eq0 : goal.returns-then-count-eq0
returns-then-count-eq0 c =
    let told = c.empty_import-none.ensures.reports in
    import_empty _ c.args.n c.args.token c.args.at c.args.count c.requires c.if-count-eq0.true told c.told.ensures c.answered.ensures

pub loop-k-init : goal.loop-k-init
loop-k-init c = import_begin _ c.args.n c.args.token c.args.at c.args.count c.requires

pub import_one-requires : goal.import_one-requires
import_one-requires c = import_room _ c.args.n c.args.token c.args.at c.args.count c.requires c.loop-k.invariant (omega arith)

pub returns-in_err-after : goal.returns-in_err-after
returns-in_err-after c =
    import_stops _ c.args.n c.args.token c.args.at c.args.count c.requires c.loop-k.invariant (omega arith) c.word_after-path.ensures c.import_one.ensures
    c.in_err-after.was c.from_residual.ensures.1 c.if-count-eq0.false

pub loop-k-preserved : goal.loop-k-preserved
loop-k-preserved c = import_more _ c.args.n c.args.token c.args.at c.args.count c.requires c.loop-k.invariant (omega arith) c.word_after-path.ensures c.import_one.ensures c.in_ok-after.was

pub returns : goal.returns
returns c = import_over _ c.args.n c.args.token c.args.at c.args.count c.requires c.loop-k.invariant (omega arith) c.if-count-eq0.false
