-- `library_slots::spread` meets its contract. The loop's invariant: the spread below index i gives the whole, and the marks keep their number.
-- Assumes nothing.
use mathlib.Core.Path.{◌≡◌}
use lib.ListN.{length}
use Rattle.library.specs.SlotMarks.{spread}
use Rattle.library_slots.proofs.spread.Given as goal

abbrev pub invariant-loop-i : goal.invariant-loop-i
invariant-loop-i l = (length l.marks ≡ length l.initial.marks) × (spread l.pool (length l.pool) l.initial.marks ≡ spread l.pool l.i l.marks)
