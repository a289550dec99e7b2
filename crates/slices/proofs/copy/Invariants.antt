-- `slices::copy` meets its contract. The loop's invariant: the first i items are copied. Assumes nothing.
use Rattle.std.proofs.Common.{◌≡◌, length, take}
use Rattle.slices.proofs.copy.Given as goal

abbrev pub invariant-loop-i : goal.invariant-loop-i
invariant-loop-i g l = (take l.i l.to ≡ take l.i l.from) × (length l.to ≡ length l.initial.to)
