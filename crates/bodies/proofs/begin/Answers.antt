-- `bodies::begin` meets its contract: the name is tested, then the part before the body is done. Assumes nothing.
use Rattle.bodies.specs.BodyLaws.{fn-ready, begins-refused, begins-met, begins-stops, begins-due}
use Rattle.bodies.proofs.begin.Goals as goal

pub fn_begin-requires : goal.fn_begin-requires
fn_begin-requires c = fn-ready c.requires _ c.inner.ensures c.word.ensures c.word-2.ensures c.word-3.ensures

pub returns-in_err-is_new : goal.returns-in_err-is_new
returns-in_err-is_new c ls v words o =
    begins-refused _ c.args.node.now.image.now.words c.args.node.now.at c.args.node.now.n words c.word-name.ensures
    (c.unless_defined.ensures ls v words _ _ _ o) c.in_err-is_new.was c.from_residual.ensures.1

pub returns-then-not-is_new : goal.returns-then-not-is_new
returns-then-not-is_new c ls v words o =
    begins-met _ c.args.node.now.image.now.words c.args.node.now.at c.args.node.now.n words c.word-name.ensures (c.unless_defined.ensures ls v words _ _ _ o) c.in_ok-is_new.was c.if-not-is_new.true

pub returns-in_err-ret : goal.returns-in_err-ret
returns-in_err-ret c ls v words o =
    begins-stops _ c.args.node.now.image.now.words c.args.node.now.at c.args.node.now.n words c.word-name.ensures (c.unless_defined.ensures ls v words _ _ _ o) c.in_ok-is_new.was c.if-not-is_new.false
    c.inner.ensures c.word.ensures c.word-2.ensures c.word-3.ensures (c.fn_begin.ensures _ ls v words _ _ o) c.in_err-ret.was c.from_residual-in_err-ret.ensures.1

pub returns : goal.returns
returns c ls v words o =
    begins-due _ c.args.node.now.image.now.words c.args.node.now.at c.args.node.now.n words c.word-name.ensures (c.unless_defined.ensures ls v words _ _ _ o) c.in_ok-is_new.was c.if-not-is_new.false
    c.inner.ensures c.word.ensures c.word-2.ensures c.word-3.ensures (c.fn_begin.ensures _ ls v words _ _ o) c.in_ok-ret.was
