-- `slotted_call::slotted_arguments` meets its contract. The loop's invariant: i arguments are done, the others follow; the measure is how many
-- do. Assumes nothing.
use mathlib.Core.Path.{◌≡◌}
use lib.ListN.{length}
use Rattle.slotted_call.proofs.Returns.{SoFar}
use Rattle.err.specs.Message.{call_name}
use Rattle.slotted_call.proofs.slotted_arguments.Given as goal

abbrev pub invariant-loop-i : goal.invariant-loop-i
invariant-loop-i l =
    let first = l.initial in
    let name = call_name l.texts l.callee in
    SoFar l.texts l.call.n name l.signature.params l.image.words l.call.args l.call.count l.slots first.types first.diagnostics first.messages first.used first.bindings
    l.i l.types l.diagnostics l.messages l.used l.bindings
    × (length l.types ≡ length first.types) × (length l.diagnostics ≡ length first.diagnostics) × (length l.messages ≡ length first.messages)
