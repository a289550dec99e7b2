-- `slots::has_bound_slot_within` meets its contract: a bound slot is found where the tree has one. Assumes nothing.
use mathlib.Core.Path.{◌∙◌}
use Rattle.slots.specs.Bindings.{bound_slots}
use Rattle.slots.proofs.HasReturns.{found_bound_slot}
use Rattle.slots.proofs.has_bound_slot_within.Goals as goal

pub returns : goal.returns
returns c =
    let T = c.args.types.now.texts.now in
    c.contains.ensures ∙ found_bound_slot T (bound_slots T c.args.bindings.now) c.args.types.now.words.now c.args.depth c.args.w
