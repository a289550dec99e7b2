-- `ending::finish` meets its contract: the walk answered, or it was refused. Assumes nothing.
use Rattle.std.proofs.Common.{arith, refl}
use Rattle.ending.proofs.Left.{entries-inside, finish-answered, finish-refused}
use Rattle.ending.proofs.finish.Goals as goal

pub invariant_of-own : goal.invariant_of-own
invariant_of-own c = entries-inside c.args.functions.now c.requires c.in-Ok.is

pub returns-in-Ok : goal.returns-in-Ok
returns-in-Ok c =
    λ words. finish-answered words c.args.slots.now c.args.functions.now c.args.types.now c.args.diagnostics.now c.args.messages.now c.args.scratch.now
    c.in-Ok.is (rw c.end.ensures refl) (c.fill.ensures.after (λ y e. omega (arith, e)))

pub returns-in-Err : goal.returns-in-Err
returns-in-Err c =
    λ words. finish-refused words c.args.slots.now c.args.functions.now c.args.types.now c.args.diagnostics.now c.args.messages.now c.args.scratch.now
    c.requires c.in-Err.is c.zero_all.ensures
