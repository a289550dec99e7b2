-- `library_slots::mark_fields` meets its contract. The loop's invariant, `FieldsToMark`: what is left to mark gives the whole.
-- Assumes nothing.
use Rattle.std.proofs.Common.{ℕ, ◌-◌}
use Rattle.library_slots.proofs.MarkWays.{FieldsToMark}
use Rattle.library_slots.proofs.mark_fields.Given as goal

abbrev pub invariant-loop-i : goal.invariant-loop-i
invariant-loop-i l = (left : ℕ) × FieldsToMark l.initial.marks l.marks l.at l.n l.i left

abbrev pub decreases-loop-i : goal.decreases-loop-i
decreases-loop-i l = l.end - l.i
