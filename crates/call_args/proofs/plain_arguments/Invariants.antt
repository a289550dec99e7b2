-- `call_args::plain_arguments` meets its contract. The loop's invariant: i arguments are done, the others follow; the measure is how many do.
-- Assumes nothing.
use mathlib.Core.Path.{◌≡◌}
use lib.ListN.{length}
use Rattle.call_args.proofs.Plain.{SoFar}
use Rattle.err.specs.Message.{call_name}
use Rattle.call_args.proofs.plain_arguments.Given as goal

abbrev pub invariant-loop-i : goal.invariant-loop-i
invariant-loop-i l =
    let first = l.initial in
    let name = call_name l.types.texts.now l.callee in
    SoFar l.types.texts.now l.call.n name l.signature.params l.image.words l.call.args l.call.count l.slots l.types.words.now first.diagnostics first.messages first.used
    l.i l.diagnostics l.messages l.used
    × (length l.diagnostics ≡ length first.diagnostics) × (length l.messages ≡ length first.messages)
