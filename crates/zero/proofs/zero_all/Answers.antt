-- `zero::zero_all` meets its contract, buffer by buffer. Assumes nothing.
use Rattle.std.proofs.Common.{arith}
use Rattle.zero.specs.Zero.{zero-six}
use Rattle.zero.proofs.zero_all.Goals as goal

pub returns : goal.returns
returns c =
    zero-six c.args.slots.now c.args.functions.now c.args.types.now c.args.diagnostics.now c.args.messages.now c.args.scratch.now
    (c.fill.ensures.after (λ y e. omega (arith, e)))
    (c.fill-2.ensures.after (λ y e. omega (arith, e)))
    (c.fill-3.ensures.after (λ y e. omega (arith, e)))
    (c.fill-4.ensures.after (λ y e. omega (arith, e)))
    (c.fill-5.ensures.after (λ y e. omega (arith, e)))
    (c.fill-6.ensures.after (λ y e. omega (arith, e)))
