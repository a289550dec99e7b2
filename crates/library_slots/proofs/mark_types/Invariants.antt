-- `library_slots::mark_types` meets its contract. The loop's invariant, `TypesToMark`: what is left to mark gives the whole.
-- Assumes nothing.
use mathlib.Core.Path.{◌≡◌}
use Rattle.std.specs.Slice.Iter.{chunks_exact_size, chunks_exact_rest}
use Rattle.library_slots.proofs.MarkWays.{TypesToMark}
use Rattle.library_slots.proofs.mark_types.Given as goal

abbrev pub invariant-loop-pair : goal.invariant-loop-pair
invariant-loop-pair l = (chunks_exact_size l.pair-iterator ≡ 2) × TypesToMark l.pool l.initial.marks l.marks l.pairs (chunks_exact_rest l.pair-iterator)
